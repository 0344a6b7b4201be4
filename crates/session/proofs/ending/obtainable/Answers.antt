-- `session::ending::obtainable` meets its contract: by those of its calls. Assumes nothing.
use Rattle.session.proofs.ending.obtainable.Goals as goal

pub returns : goal.returns
returns c = simp (c.without-2.ensures, c.without.ensures, c.disclosable_of-disclosed.ensures)
