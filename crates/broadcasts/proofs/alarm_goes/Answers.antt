use Rattle.broadcasts.specs.Broadcasts.{alarm_goes}
use borrow.Author.Rules.{rules}
use Rattle.broadcasts.proofs.alarm_goes.Goals as goal

pub returns : goal.returns
unfolding alarm_goes
returns c = simp c.any_alarm.ensures
