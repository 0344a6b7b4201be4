-- What is given unless a test fails: a value, or the refusal and no value. Assumes nothing.
use Rattle.std.specs.Prelude.{◌≡◌, ◌↔◌}
use Rattle.std.proofs.Math.Option.{Option, none, some}

-- "and then no set", "and then no session"
pub data Unless (F A : Type 0) : Type 0 where
  given : A → Unless F A
  withheld : F → Unless F A

-- x, or the refusal
abbrev pub unless : {F A : Type 0} → Option F → A → Unless F A
unless none x = given x
unless (some f) x = withheld f

-- u gives the values that are Right where what is Allowed holds, and else the refusal for which there is a Reason
pub record GivenExactly {F A : Type 0} (Allowed : Type 0) (Right : A → Type 0) (Reason : F → Type 0) (u : Unless F A) : Type 0 where
  pub values : (x : A) → (u ≡ given x) ↔ (Allowed × Right x)
  pub refusals : (f : F) → (u ≡ withheld f) ↔ Reason f
