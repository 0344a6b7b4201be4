-- What weights leave as it is (specs/Weights). Assumes nothing.
use mathlib.Core.Path.{◌∙◌, ◌≡◌, ap, refl, subst, sym}
use mathlib.Core.Logic.{◌↔◌}
use mathlib.Core.Bool.{true≢false}
use mathlib.Core.List.{List, map}
use mathlib.Core.Option
use mathlib.Core.Option.{Option, none, or_else, some}
use Prim.Native.Nat.{ℕ}
use Rattle.encoding.specs.LittleEndian.{Bytes}
use Rattle.lists.specs.Lists.{Every}
use Rattle.atoms.specs.Sets.{Subset, set_of, union}
use Rattle.rules.specs.Model.{closure, model}
use Rattle.rules.specs.Policy.{Policy}
use Rattle.rules.specs.Rules.{Rule}
use Rattle.rules.specs.Unlocking.{grants, unlocks}
use Rattle.rules.specs.Weights.{weight_in}
use Rattle.records.specs.Policies.{policy_of, unweighted}
use Rattle.records.specs.Records.{records_of}
use Rattle.records.proofs.TheoremsProof as records
use Rattle.form.specs.WrittenForm as W
use Rattle.form.specs.WrittenForm.{WellFormed}
use Rattle.form.proofs.PolicyLaws.{disclosure_heads}
use Rattle.form.proofs.TheoremsProof as form
use Rattle.disclosure.specs.Disclosure.{askable, disclosable}
use Rattle.disclosure.proofs.DisclosureLaws.{Low}
use Rattle.preference.specs.Question.{Question}
use Rattle.preference.proofs.OrderTheoremsProof as order
use Rattle.rounds.specs.Endings.{Ending, ask, deny, ending, grant}
use Rattle.rounds.specs.Moves.{Move}
use Rattle.rounds.specs.Refusals.{Refusal, of_policy}
use Rattle.rounds.specs.RoundTest.{round_refusal, session_refusal}
use Rattle.rounds.specs.Rounds.{Answer, declined_after, ends, refused, respond, round, shown_after, worked}
use Rattle.rounds.specs.Sessions.{Session}
use Rattle.rounds.proofs.AnswerLaws.{Says, Way, clash, ending_says}
use Rattle.rounds.proofs.RefusalLaws.{refusal_parts}
use Rattle.demands.specs.Weights.{SameButQuestions, WeightsAside}

-- ---- answers that are alike but for the set that is asked

abbrev AlikeEndings : Ending → Ending → Type 0
AlikeEndings grant grant = Unit {0}
AlikeEndings grant deny = ⊥
AlikeEndings grant (ask x) = ⊥
AlikeEndings deny grant = ⊥
AlikeEndings deny deny = Unit {0}
AlikeEndings deny (ask x) = ⊥
AlikeEndings (ask q) grant = ⊥
AlikeEndings (ask q) deny = ⊥
AlikeEndings (ask q) (ask x) = Unit {0}

abbrev AlikeAnswers : Answer → Answer → Type 0
AlikeAnswers (ends e) (ends f) = AlikeEndings e f
AlikeAnswers (ends e) (refused g) = ⊥
AlikeAnswers (refused f) (ends e) = ⊥
AlikeAnswers (refused f) (refused g) = f ≡ g

granted : (x y : Answer) → AlikeAnswers x y → (x ≡ ends grant) ↔ (y ≡ ends grant)
granted (ends grant) (ends deny) h = elim h [ ]
granted (ends grant) (ends (ask x)) h = elim h [ ]
granted (ends grant) (refused g) h = elim h [ ]
granted (ends deny) (ends grant) h = elim h [ ]
granted (ends deny) (ends (ask x)) h = elim h [ ]
granted (ends deny) (refused g) h = elim h [ ]
granted (ends (ask q)) (ends grant) h = elim h [ ]
granted (ends (ask q)) (ends deny) h = elim h [ ]
granted (ends (ask q)) (refused g) h = elim h [ ]
granted (refused f) (ends _) h = elim h [ ]
granted (ends grant) (ends grant) h = (λ _. refl, λ _. refl)
granted (ends deny) (ends deny) h = (λ e. clash (cc), λ e. clash (cc))
granted (ends (ask q)) (ends (ask x)) h = (λ e. clash (cc), λ e. clash (cc))
granted (refused f) (refused g) h = (λ e. clash (cc), λ e. clash (cc))

denied : (x y : Answer) → AlikeAnswers x y → (x ≡ ends deny) ↔ (y ≡ ends deny)
denied (ends grant) (ends deny) h = elim h [ ]
denied (ends grant) (ends (ask x)) h = elim h [ ]
denied (ends grant) (refused g) h = elim h [ ]
denied (ends deny) (ends grant) h = elim h [ ]
denied (ends deny) (ends (ask x)) h = elim h [ ]
denied (ends deny) (refused g) h = elim h [ ]
denied (ends (ask q)) (ends grant) h = elim h [ ]
denied (ends (ask q)) (ends deny) h = elim h [ ]
denied (ends (ask q)) (refused g) h = elim h [ ]
denied (refused f) (ends _) h = elim h [ ]
denied (ends grant) (ends grant) h = (λ e. clash (cc), λ e. clash (cc))
denied (ends deny) (ends deny) h = (λ _. refl, λ _. refl)
denied (ends (ask q)) (ends (ask x)) h = (λ e. clash (cc), λ e. clash (cc))
denied (refused f) (refused g) h = (λ e. clash (cc), λ e. clash (cc))

turned_away_lem : (x y : Answer) → AlikeAnswers x y → (f : Refusal) → (x ≡ refused f) ↔ (y ≡ refused f)
turned_away_lem (ends e) (refused i) h f = elim h [ ]
turned_away_lem (refused g) (ends d) h f = elim h [ ]
turned_away_lem (ends e) (ends d) h f = (λ e. clash (cc), λ e. clash (cc))
turned_away_lem (refused g) (refused i) h f = (λ e. ap refused (sym h) ∙ e, λ e. ap refused h ∙ e)

asked : (x y : Answer) → AlikeAnswers x y → (q : Question) → x ≡ ends (ask q) → (p : Question) × (y ≡ ends (ask p))
asked (ends grant) (ends deny) h q e = elim h [ ]
asked (ends grant) (ends (ask p)) h q e = elim h [ ]
asked (ends grant) (refused g) h q e = elim h [ ]
asked (ends deny) (ends grant) h q e = elim h [ ]
asked (ends deny) (ends (ask p)) h q e = elim h [ ]
asked (ends deny) (refused g) h q e = elim h [ ]
asked (ends (ask q)) (ends grant) h r e = elim h [ ]
asked (ends (ask q)) (ends deny) h r e = elim h [ ]
asked (ends (ask q)) (refused g) h r e = elim h [ ]
asked (refused f) (ends _) h q e = elim h [ ]
asked (ends grant) (ends grant) h q e = clash (cc)
asked (ends deny) (ends deny) h q e = clash (cc)
asked (ends (ask q)) (ends (ask p)) h r e = (p, refl)
asked (refused f) (refused g) h q e = clash (cc)

-- ---- two policies with the same rules

-- a way to unlock under the one is a way under the other
same_way : (pol qol : Policy) → pol.access ≡ qol.access → pol.disclosure ≡ qol.disclosure → (r P N : ℕ) (q : Question) → Way pol r P N q → Way qol r P N q
unfolding disclosable unlocks
same_way pol qol a d r P N q w = record {
  disclosed = subst (λ (rs : List Rule). Subset q.asks (closure rs P)) d w.disclosed;
  unshown = w.unshown;
  undeclined = w.undeclined;
  opens = ap (λ (rs : List Rule). grants r (model rs (union P q.asks))) (sym a) ∙ w.opens;
}

module _ (pol qol : Policy) (low : Every Low pol.disclosure) (wol : Every Low qol.disclosure) (a : pol.access ≡ qol.access)
    (d : pol.disclosure ≡ qol.disclosure) (r P N : ℕ) where
  forth : (q : Question) → Way pol r P N q → Way qol r P N q
  forth = same_way pol qol a d r P N

  back : (q : Question) → Way qol r P N q → Way pol r P N q
  back = same_way qol pol (sym a) (sym d) r P N

  same_test : unlocks pol r P ≡ unlocks qol r P
  unfolding unlocks
  same_test = ap (λ (rs : List Rule). grants r (model rs P)) a

  alike : (e f : Ending) → Says pol low r P N e → Says qol wol r P N f → AlikeEndings e f
  alike grant grant s t = tt
  alike grant deny s t = true≢false (sym s ∙ same_test ∙ t.locked)
  alike grant (ask x) s t = true≢false (sym s ∙ same_test ∙ t.locked)
  alike deny grant s t = true≢false (sym t ∙ sym same_test ∙ s.locked)
  alike deny deny s t = tt
  alike deny (ask x) s t = s.none_left x (back x t.way)
  alike (ask q) grant s t = true≢false (sym t ∙ sym same_test ∙ s.locked)
  alike (ask q) deny s t = t.none_left q (forth q s.way)
  alike (ask q) (ask x) s t = tt

  pub alike_endings : AlikeEndings (ending pol r P N) (ending qol r P N)
  alike_endings = alike (ending pol r P N) (ending qol r P N) (ending_says pol low r P N) (ending_says qol wol r P N)

-- ---- rounds

-- an accepted policy refuses nothing itself
accepted_refusal : (bytes : List ℕ) → Bytes bytes → WellFormed bytes → (s : Session) (m : Move) → round_refusal bytes s m ≡ session_refusal s m
unfolding or_else
accepted_refusal bytes b w s m =
    refusal_parts bytes s m
    ∙ ap (λ (o : Option W.Refusal). or_else (Option.map of_policy o) (session_refusal s m)) (((form.theorems).tested bytes b).accepts.1 w)

module _ (bytes others : List ℕ) (b : Bytes bytes) (c : Bytes others) (w : WellFormed bytes) (v : WellFormed others)
    (e : unweighted (records_of bytes) ≡ unweighted (records_of others)) where
  same : ((policy_of bytes).access ≡ (policy_of others).access) × ((policy_of bytes).disclosure ≡ (policy_of others).disclosure)
  same = (records.theorems).weights_aside bytes others e

  responds : (o : Option Refusal) (s : Session) (m : Move)
      → AlikeAnswers (respond o (policy_of bytes) s m).answer (respond o (policy_of others) s m).answer
  unfolding worked
  responds none s m =
      alike_endings (policy_of bytes) (policy_of others) (disclosure_heads bytes b w) (disclosure_heads others c v) same.0 same.1 s.request
      (shown_after s m) (declined_after s m)
  responds (some f) s m = refl

  rounds_alike : (s : Session) (m : Move) → AlikeAnswers (round bytes s m).answer (round others s m).answer
  unfolding round
  rounds_alike s m =
      subst (λ (o : Option Refusal). AlikeAnswers (respond (round_refusal bytes s m) (policy_of bytes) s m).answer (respond o (policy_of others) s m).answer)
      (accepted_refusal bytes b w s m ∙ sym (accepted_refusal others c v s m)) (responds (round_refusal bytes s m) s m)

  pub same_but_questions : SameButQuestions bytes others
  unfolding disclosable askable
  same_but_questions = record {
    models = λ C. ap (λ (rs : List Rule). model rs C) same.0;
    disclosables = λ P. ap (λ (rs : List Rule). closure rs P) same.1;
    askables = ap (λ (rs : List Rule). set_of (map (λ r. r.head) rs)) same.1;
    grants = λ s m. granted (round bytes s m).answer (round others s m).answer (rounds_alike s m);
    denies = λ s m. denied (round bytes s m).answer (round others s m).answer (rounds_alike s m);
    refusals = λ s m. turned_away_lem (round bytes s m).answer (round others s m).answer (rounds_alike s m);
    asks = λ s m. asked (round bytes s m).answer (round others s m).answer (rounds_alike s m);
  }

pub weights_aside : WeightsAside
weights_aside = record {
  aside = same_but_questions;
  as_before = λ bytes w none q x i j.
      (order.theorems).equal_weights (weight_in (policy_of bytes))
      (λ k _. ((form.theorems).weights bytes w).unnamed k (λ j l h. none j l h.kind)) q.asks x.asks i j;
}
