use Rattle.std.proofs.Common.{◌≡◌, ◌^◌, List, ℕ, length, map, sym, subst, arith, rules}
use Rattle.std.proofs.lemmas.List.{map-id}
use Rattle.recent.specs.Fits.{Below}
use Rattle.area_parts.proofs.Parts.{recent-laid}
use Rattle.area_parts.proofs.put_recent.Goals as goal

pub put_numbers-requires : goal.put_numbers-requires
put_numbers-requires c =
    let n : 60 ≡ length c.args.r.totals = (search rules) in omega (arith, n)

pub returns : goal.returns
returns c =
    let r = c.args.r in
    let n : 60 ≡ length r.totals = (search rules) in
    let totals = rw (map-id r.totals) at c.put_numbers.ensures.memory in
    record {
      memory = rw (c.put_number-3.ensures, c.put_number-2.ensures, c.put_number.ensures, c.from.ensures, c.from-2.ensures, totals) (recent-laid r c.args.part.now c.requires (sym n));
      fit = record { sixty = sym n; totals = subst (Below (2 ^ 32)) (map-id r.totals) c.put_numbers.ensures.fit; count = omega arith; begun = omega arith; total = omega arith };
    }
