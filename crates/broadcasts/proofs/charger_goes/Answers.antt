use borrow.Author.Rules.{rules}
use Rattle.broadcasts.specs.Broadcasts.{charger_goes}
use Rattle.broadcasts.proofs.charger_goes.Goals as goal

pub returns : goal.returns
unfolding charger_goes
returns c = search rules
