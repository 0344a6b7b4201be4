-- The disclosure rules of a policy of the written form. Assumes nothing.
use mathlib.Core.Path.{◌≡◌}
use mathlib.Core.List.{List}
use Prim.Native.Nat.{◌<◌, ◌^◌, ℕ}
use Rattle.encoding.specs.LittleEndian.{Bytes}
use Rattle.lists.specs.Lists.{Every}
use Rattle.lists.proofs.ListLaws.{every_imp}
use Rattle.atoms.specs.Sets.{empty}
use Rattle.atoms.proofs.SetLaws.{none_is_empty}
use Rattle.rules.specs.LevelByLevel.{settle}
use Rattle.rules.specs.Policy.{Policy}
use Rattle.rules.specs.Stable.{Closed, Least}
use Rattle.rules.proofs.LeastLaws.{least_unique}
use Rattle.rules.proofs.LoopLaws.{settle_positive}
use Rattle.records.specs.Policies.{policy_of}
use Rattle.form.specs.WrittenForm.{DisclosureBody, WellFormed}
use Rattle.form.proofs.AnswerLaws.{gives}
use Rattle.form.proofs.PolicyLaws.{disclosure_bodies, disclosure_heads}
use Rattle.disclosure.specs.Answers.{disclosable_answer}
use Rattle.disclosure.specs.Disclosure.{disclosable}
use Rattle.disclosure.specs.Theorems.{GivesDisclosable, OfWellFormed}
use Rattle.disclosure.proofs.DisclosureLaws as D

module _ (bytes : List ℕ) (b : Bytes bytes) (w : WellFormed bytes) where
  abbrev pol : Policy
  pol = policy_of bytes

  -- no disclosure rule has a negated part
  disclosure_positive : Every (λ r. r.negated ≡ empty) pol.disclosure
  disclosure_positive =
      every_imp DisclosureBody (λ r. r.negated ≡ empty) (λ r h. none_is_empty r.negated h.1) pol.disclosure (disclosure_bodies bytes b w)

  -- so that they settle on the disclosable set
  pub settled_disclosable : (P : ℕ) → settle (policy_of bytes).disclosure P ≡ disclosable (policy_of bytes) P
  unfolding disclosable
  settled_disclosable P = settle_positive pol.disclosure disclosure_positive P

  -- which is a set of credentials, as what is shown is
  pub low_disclosable : (P : ℕ) → P < 2 ^ 16 → disclosable (policy_of bytes) P < 2 ^ 16
  low_disclosable = D.disclosable_credentials pol (disclosure_heads bytes b w)

  pub accepted : OfWellFormed bytes
  accepted =
      let low = disclosure_heads bytes b w in
      record {
        disclosable_iff = D.disclosable_iff pol low;
        askable_iff = D.askable_iff pol low;
        askable_means = D.askable_means bytes;
        askable_credential = D.askable_credential pol low;
        shown = D.shown_disclosable pol;
        grows = D.disclosable_mono pol low;
        adds = D.disclosable_adds pol;
        credentials = D.disclosable_credentials pol low;
      }

pub gives_disclosable : (bytes : List ℕ) → Bytes bytes → (P : ℕ) → GivesDisclosable bytes P (disclosable_answer bytes P)
unfolding disclosable_answer
gives_disclosable bytes b P =
    let pol = policy_of bytes in
    gives bytes b (Least (Closed pol.disclosure P)) (disclosable pol P) (λ w. D.disclosable_least pol (disclosure_heads bytes b w) P)
    (λ w X l. least_unique l (D.disclosable_least pol (disclosure_heads bytes b w) P))
