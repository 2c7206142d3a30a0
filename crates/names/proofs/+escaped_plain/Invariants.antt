use Rattle.std.proofs.Common.{◌-◌, length}
use Rattle.names.proofs.+escaped_plain.Given as goal

abbrev pub decreases-escaped : goal.decreases-escaped
decreases-escaped l = length l.key.now - l.at

abbrev pub decreases-plain : goal.decreases-plain
decreases-plain l = length l.key.now - l.at
