-- What is given of any bytes: a set of a policy of the written form, and the refusal of any other. Assumes nothing.
use mathlib.Core.Path.{◌≡◌, refl, subst, sym}
use mathlib.Core.List.{List}
use mathlib.Core.Option.{some}
use Prim.Native.Nat.{ℕ}
use Rattle.encoding.specs.LittleEndian.{Bytes}
use Rattle.validation.specs.Unless.{GivenExactly, Unless, unless}
use Rattle.validation.proofs.UnlessLaws.{given_exactly}
use Rattle.form.specs.Answers.{Gives}
use Rattle.form.specs.PolicyTest.{policy_refusal}
use Rattle.form.specs.WrittenForm.{PolicyNumber, PolicyRefused, Refusal, WellFormed, at, refusal_number}
use Rattle.form.proofs.TheoremsProof.{theorems}

-- S is what is Right of an accepted policy, and nothing else is
pub gives : (bytes : List ℕ) → Bytes bytes → (Right : ℕ → Type 0) (S : ℕ) → (WellFormed bytes → Right S)
    → (WellFormed bytes → (X : ℕ) → Right X → X ≡ S) → Gives bytes Right (unless (policy_refusal bytes) S)
gives bytes b Right S right only = record { exactly = exactly; numbers = λ f e. numbered f (refused f ((exactly.refusals f).0 e)) }
  where
    exactly : GivenExactly (WellFormed bytes) Right (PolicyRefused bytes) (unless (policy_refusal bytes) S)
    exactly = given_exactly (WellFormed bytes) Right (PolicyRefused bytes) S (policy_refusal bytes) (theorems.tested bytes b).accepts
        (theorems.tested bytes b).refuses right only

    refused : (f : Refusal) → PolicyRefused bytes f → policy_refusal bytes ≡ some f
    refused f = ((theorems.tested bytes b).refuses f).1

    numbered : (f : Refusal) → policy_refusal bytes ≡ some f → PolicyNumber (refusal_number f)
    numbered (at n k) e = (theorems.numbers bytes b).only n k e

-- the defined answer has its meaning, and the bytes are as they were
pub answered : (bytes : List ℕ) (defined : Unless Refusal ℕ) (Means : Unless Refusal ℕ → Type 0) → Means defined → (u : Unless Refusal ℕ) → u ≡ defined
    → (u ≡ defined) × (Means u × (bytes ≡ bytes))
answered bytes defined Means m u e = (e, (subst Means (sym e) m, refl))
