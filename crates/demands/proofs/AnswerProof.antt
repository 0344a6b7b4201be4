-- Demand 2: the ending of a round under a policy of the written form. Assumes nothing.
use mathlib.Core.Path.{◌∙◌, ◌≡◌, refl, subst, sym}
use mathlib.Core.Logic.{◌↔◌}
use mathlib.Core.Bool.{false, true, true≢false}
use mathlib.Core.List.{List}
use Prim.Native.Nat.{ℕ}
use Rattle.encoding.specs.LittleEndian.{Bytes}
use Rattle.lists.specs.Lists.{Every}
use Rattle.validation.proofs.TestLaws.{T_true, not_T_false}
use Rattle.atoms.specs.Sets.{union}
use Rattle.rules.specs.Policy.{Policy}
use Rattle.rules.specs.Unlocking.{Unlocks, unlocks}
use Rattle.rules.specs.Model.{model}
use Rattle.records.specs.Policies.{policy_of}
use Rattle.form.proofs.PolicyLaws.{disclosure_heads, one_model, unlocks_iff}
use Rattle.form.specs.WrittenForm.{WellFormed}
use Rattle.disclosure.proofs.DisclosureLaws.{Low, disclosable_iff}
use Rattle.preference.specs.Question.{Question, no_question}
use Rattle.rounds.specs.Endings.{Ending, ask, deny, ending, grant}
use Rattle.rounds.proofs.AnswerLaws.{FirstWay, Says, Way, clash, ending_is_ask, ending_says, way_empty}
use Rattle.demands.specs.Demand2.{Demand2, DeniedWhen, FirstMissing, Missing}
use Rattle.demands.specs.Demand3.{Licensed}
use Rattle.demands.proofs.ClientLaws.{LicensedTest}

module _ (bytes : List ℕ) (b : Bytes bytes) (w : WellFormed bytes) where
  abbrev pol : Policy
  pol = policy_of bytes

  abbrev low : Every Low (policy_of bytes).disclosure
  low = disclosure_heads bytes b w

  -- ---- the tests and what they stand for

  pub missing_way : (r P N : ℕ) (q : Question) → Missing pol r P N q ↔ Way pol r P N q
  missing_way r P N q = (
    λ m. record {
      disclosed = λ k i. (disclosable_iff pol low P k).1 (m.disclosed k i);
      unshown = m.unshown;
      undeclined = m.undeclined;
      opens = (unlocks_iff bytes b w r (union P q.asks)).1 m.opens;
    },
    λ m. record {
      disclosed = λ k i. (disclosable_iff pol low P k).0 (m.disclosed k i);
      unshown = m.unshown;
      undeclined = m.undeclined;
      opens = (unlocks_iff bytes b w r (union P q.asks)).0 m.opens;
    },
  )

  pub licensed_test : (r H I S : ℕ) → Licensed pol r H I S → LicensedTest pol r H I S
  licensed_test r H I S c = record {
    first = c.first;
    held = c.held;
    disclosed = λ k i. (disclosable_iff pol low I k).1 (c.disclosed k i);
    opens = λ T h. (unlocks_iff bytes b w r (union S T)).1 (c.opens T h);
  }

  -- ---- demand 2

  module _ (r P N : ℕ) where
    Said : Ending → Type 0
    Said = Says pol low r P N

    is_grant : (e : Ending) → Said e → (e ≡ grant) ↔ (unlocks pol r P ≡ true)
    unfolding Said
    is_grant grant s = (λ e. s, λ u. refl)
    is_grant deny s = (λ e. clash (cc), λ u. absurd (true≢false (sym u ∙ s.locked)))
    is_grant (ask q) s = (λ e. clash (cc), λ u. absurd (true≢false (sym u ∙ s.locked)))

    is_deny : (e : Ending) → Said e → (e ≡ deny) ↔ ((q : Question) → Way pol r P N q → ⊥)
    unfolding Said
    is_deny grant s = (λ e. clash (cc), λ f. absurd (f no_question (way_empty pol low r P N s)))
    is_deny deny s = (λ e. s.none_left, λ f. refl)
    is_deny (ask q) s = (λ e. clash (cc), λ f. absurd (f q s.way))

    pub denied_when : DeniedWhen pol r P N (ending pol r P N)
    unfolding Said
    denied_when =
        let d = is_deny (ending pol r P N) (ending_says pol low r P N) in
        (λ e q m. d.0 e q ((missing_way r P N q).0 m), λ f. d.1 (λ q w. f q ((missing_way r P N q).1 w)))

    -- locked: the test fails
    locked_iff : (unlocks pol r P ≡ false) ↔ (Unlocks pol r P → ⊥)
    locked_iff = (
      λ e u. true≢false (sym ((unlocks_iff bytes b w r P).1 u) ∙ e),
      λ f. not_T_false (unlocks pol r P) (λ t. f ((unlocks_iff bytes b w r P).0 (T_true (unlocks pol r P) t))),
    )

    -- the first of the ways is the first of the missing sets
    first_missing : (q : Question) → FirstWay pol low r P N q → FirstMissing pol r P N q
    first_missing q f = record {
      missing = (missing_way r P N q).1 f.way;
      first = λ x m n. f.first x ((missing_way r P N x).0 m) n;
    }

    pub demand2 : Demand2 pol r P N (ending pol r P N)
    unfolding Said
    demand2 = record {
      one_stable = λ C. (model pol.access C, one_model bytes b w C);
      grants = (
        λ e. (unlocks_iff bytes b w r P).0 ((is_grant (ending pol r P N) said).0 e),
        λ u. (is_grant (ending pol r P N) said).1 ((unlocks_iff bytes b w r P).1 u),
      );
      asks = λ q. (
        λ e. let h = subst Said e said in (locked_iff.0 h.locked, first_missing q h),
        λ (f, h).
            ending_is_ask pol low r P N (locked_iff.1 f) q ((missing_way r P N q).0 h.missing)
            (λ x v n. h.first x ((missing_way r P N x).1 v) n),
      );
      denies = denied_when;
    }
      where
        said : Said (ending pol r P N)
        said = ending_says pol low r P N
