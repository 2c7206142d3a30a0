-- A word of the pack, with an answer that is served.
-- Assumes nothing.
use mathlib.Core.Path.{ap, ◌∙◌}
use Rattle.commands.proofs.Answers.{is_served}
use Rattle.commands.specs.Answers.{served}
use Rattle.gauge.specs.Word.{given_of}
use Rattle.minutes.proofs.Laws.{zero_or_ten}
use Rattle.minutes.specs.declared.Shown.{Shown}
use Rattle.bus.proofs.OnBusDevice.word.Goals as goal

pub returns : goal.returns
returns c =
    let shown = c.show.ensures in
    record {
      answer = ap (λ (x : Shown). x.answer) shown;
      word = ap (λ (x : Shown). x.word) shown;
      serves = ap (λ (x : Shown). served x.answer) shown ∙ is_served (zero_or_ten (given_of c.args.self.now.state c.args.command));
    }
