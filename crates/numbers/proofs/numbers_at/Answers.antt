use Rattle.std.proofs.Common.{arith}
use Rattle.numbers.proofs.Stores.{reading_goes_on, reading_ends}
use Rattle.numbers.proofs.numbers_at.Goals as goal

pub loop-value-preserved : goal.loop-value-preserved
loop-value-preserved g c =
    let l = c.loop-value in
    let a = c.args in
    record {
      next = omega (arith, l.invariant.next, c.WIDTH-place.ensures);
      reading = reading_goes_on g.T.Number.of g.T.Number.WIDTH a.part.now a.at a.values.now l.values l.value-index (omega (arith, l.invariant.reading.long)) (rw l.invariant.next at c.number_at.ensures) l.invariant.reading;
    }

pub returns : goal.returns
returns g c =
    let l = c.loop-value in
    let a = c.args in
    reading_ends g.T.Number.of g.T.Number.WIDTH a.part.now a.at a.values.now l.values l.value-index (omega (arith, l.invariant.reading.long)) l.invariant.reading
