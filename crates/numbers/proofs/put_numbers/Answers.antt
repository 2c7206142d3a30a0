use Rattle.std.proofs.Common.{◌≡◌, ℕ, ◌<◌, ◌^◌, List, map, length, get_or, sym, ap, ◌∙◌, arith}
use Rattle.std.proofs.lemmas.List.{get_or-map, length-map}
use Rattle.numbers.proofs.Stores.{writing_goes_on, below_more}
use Rattle.numbers.proofs.put_numbers.Goals as goal

pub loop-value-preserved : goal.loop-value-preserved
loop-value-preserved g c =
    let l = c.loop-value in
    let a = c.args in
    let W = g.T.Number.WIDTH in
    let numbers : List ℕ = map g.T.Number.value a.values.now in
    let x = c.value-item.result in
    let within : l.value-index < length a.values.now = c.loop-value-test.true in
    let n : length numbers ≡ length a.values.now = length-map a.values.now g.T.Number.value in
    let here : l.value-index < length numbers = omega arith in
    let is : get_or numbers l.value-index 0 ≡ c.to_number.result =
    get_or-map g.T.Number.value a.values.now l.value-index x 0 within ∙ ap g.T.Number.value (sym c.value-item.is) ∙ sym c.to_number.ensures.0 in
    record {
      next = omega (arith, l.invariant.next, c.WIDTH-place.ensures);
      writing = writing_goes_on W a.part.now a.at numbers l.part l.value-index here is (rw (l.invariant.next, c.WIDTH.ensures) at c.put_number.ensures) l.invariant.writing;
      fit = below_more (256 ^ W) numbers l.value-index here (rw is c.to_number.ensures.1) l.invariant.fit;
    }
