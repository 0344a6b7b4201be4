use mathlib.Core.Path.{◌∙◌, ap}
use Prim.Native.Nat.{ℕ}
use Rattle.rules.specs.Unlocking.{grants}
use Rattle.arrays.specs.Arrays.{evaluated, level_count}
use Rattle.preference.specs.InArrays.{opens_at}
use Rattle.search.proofs.candidate.opens.Goals as goal

pub returns : goal.returns
unfolding opens_at
returns c =
    let s = c.args.search.now in
    let r = s.rules.now in
    c.unlocks.ensures
    ∙ ap (λ (x : ℕ). grants s.request (evaluated level_count r.rules.now.heads r.rules.now.positive r.rules.now.negated r.starts.now x))
    (c.credentials-credentials.ensures ∙ c.switched.ensures)
