-- `session::ending::ending` meets its contract: the rules in arrays unlock what the policy's rules unlock. Assumes nothing.
use Rattle.encoding.proofs.ByteLaws.{slice_bytes}
use Rattle.arrays.proofs.HeadLaws.{heads_start}
use Rattle.records.specs.Policies.{policy_of}
use Rattle.session.proofs.ProgramLaws.{ends_found, ends_grant, locked_alone, obtainable_apart}
use native.Mathlib.Omega.{arith}
use Rattle.session.proofs.ending.ending.Goals as goal

pub access_rules-starts-requires : goal.access_rules-starts-requires
access_rules-starts-requires c = (c.requires.0.form, (c.requires.0.levels, heads_start))

pub returns-then-unlocks : goal.returns-then-unlocks
returns-then-unlocks c =
    let a = c.args in
    let bytes = a.policy.now in
    let u = c.unlocks in
    ends_grant bytes (slice_bytes bytes c.type_inv.policy) a.levels.now c.requires.0 _ _ _ _ c.access_rules-starts.ensures a.request
    a.shown a.declined _ c.credentials-credentials.ensures u.result u.ensures c.if-unlocks.true

pub preferred-requires : goal.preferred-requires
preferred-requires c =
    let a = c.args in
    let bytes = a.policy.now in
    let u = c.unlocks in
    let within = c.obtainable-within in
    record {
      atom = omega (arith, c.requires.1);
      apart = obtainable_apart (policy_of bytes) a.shown a.declined within.result within.ensures;
      alone =
          locked_alone bytes (slice_bytes bytes c.type_inv.policy) a.levels.now c.requires.0 _ _ _ _ c.access_rules-starts.ensures
          a.request a.shown a.declined _ c.credentials-credentials.ensures u.result u.ensures c.if-unlocks.false;
    }

pub returns-in-Some : goal.returns-in-Some
returns-in-Some c =
    let a = c.args in
    let bytes = a.policy.now in
    let u = c.unlocks in
    let within = c.obtainable-within in
    let weights = c.weight_table-weights in
    ends_found bytes (slice_bytes bytes c.type_inv.policy) a.levels.now c.requires.0 _ _ _ _ c.access_rules-starts.ensures a.request
    a.shown a.declined _ c.credentials-credentials.ensures u.result u.ensures c.if-unlocks.false within.result within.ensures weights.result
    weights.ensures _ c.in-Some.ensures

pub returns-in-None : goal.returns-in-None
returns-in-None c =
    let a = c.args in
    let bytes = a.policy.now in
    let u = c.unlocks in
    let within = c.obtainable-within in
    let weights = c.weight_table-weights in
    ends_found bytes (slice_bytes bytes c.type_inv.policy) a.levels.now c.requires.0 _ _ _ _ c.access_rules-starts.ensures a.request
    a.shown a.declined _ c.credentials-credentials.ensures u.result u.ensures c.if-unlocks.false within.result within.ensures weights.result
    weights.ensures _ c.in-None.ensures
