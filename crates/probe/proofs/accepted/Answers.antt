-- `probe::accepted` meets its contract: the rules in arrays unlock what the policy's rules unlock. Assumes nothing.
use mathlib.Core.Path.{◌∙◌}
use Rattle.encoding.proofs.ByteLaws.{slice_bytes}
use Rattle.arrays.proofs.HeadLaws.{heads_start}
use Rattle.probe.proofs.ReplyLaws.{locked_alone, replies_locked, replies_open}
use Rattle.probe.proofs.accepted.Goals as goal

pub access_rules-starts-requires : goal.access_rules-starts-requires
access_rules-starts-requires c = let a = c.requires.form in (a.form, (a.levels, heads_start))

pub returns-then-unlocks : goal.returns-then-unlocks
returns-then-unlocks c =
    let a = c.args in
    let bytes = a.policy.now in
    let u = c.unlocks in
    replies_open bytes (slice_bytes bytes c.type_inv.policy) a.levels.now c.requires.form _ _ _ _ c.access_rules-starts.ensures a.request a.shown _ c.credentials-credentials.ensures u.result u.ensures c.if-unlocks.true _ _ _

pub found-requires : goal.found-requires
found-requires c =
    let a = c.args in
    let bytes = a.policy.now in
    let u = c.unlocks in
    let alone = locked_alone bytes (slice_bytes bytes c.type_inv.policy) a.levels.now c.requires.form _ _ _ _ c.access_rules-starts.ensures a.request a.shown _ c.credentials-credentials.ensures u.result u.ensures c.if-unlocks.false in
    record { atom = c.requires.atom; apart = c.requires.apart; alone = alone }

pub returns : goal.returns
returns c =
    let a = c.args in
    let bytes = a.policy.now in
    let u = c.unlocks in
    c.found.ensures ∙ replies_locked bytes (slice_bytes bytes c.type_inv.policy) a.levels.now c.requires.form _ _ _ _ c.access_rules-starts.ensures a.request a.shown _ c.credentials-credentials.ensures u.result u.ensures c.if-unlocks.false _ _ _
