-- What is read off a reply of the search. Assumes nothing.
use Rattle.std.specs.Prelude.{◌≡◌, ◌%◌, ◌/◌, ◌<◌, ◌^◌, ℕ}
use Rattle.preference.specs.Order.{found, nothing, spent}
use Rattle.probe.specs.Reply.{refused_reply, result_reply}

pub record Theorems : Type 0 where
  -- byte 0 says which answer it is; the three bytes above it have the place, or how many were tried; above them stands the set asked for
  pub found_reply_lem : (asks : ℕ → ℕ) (n place : ℕ) → place < 2 ^ 24
      → (result_reply asks (found n place) % 256 ≡ 0)
      × ((result_reply asks (found n place) / 256 % 2 ^ 24 ≡ place) × (result_reply asks (found n place) / 2 ^ 32 ≡ asks n))
  pub nothing_reply : (asks : ℕ → ℕ) (tried : ℕ) → (result_reply asks (nothing tried) % 256 ≡ 1) × (result_reply asks (nothing tried) / 256 ≡ tried)
  pub spent_reply : (asks : ℕ → ℕ) → result_reply asks spent ≡ 2
  pub refused_reply_lem : refused_reply ≡ 3
