-- Products from 16-bit parts: their range, and that the parts' sum is the product.
-- Assumes nothing.
use Prim.Native.Nat.{ℕ, ◌+◌, ◌*◌, ◌/◌, ◌%◌, ◌^◌, ◌<◌, ◌≤◌}
use mathlib.Core.Path.{◌≡◌, ap, ◌∙◌, sym}
use native.Mathlib.Omega.{arith}
use native.Mathlib.Nat.{mul-le-mul}
use Rattle.capacity.specs.Products.{PartsSum}

pub parts_sum : PartsSum
parts_sum high low factor carry = omega arith

-- two 16-bit factors, and what is carried in, fit 32 bits
pub product16_most : (a b : ℕ) → a < 65536 → b < 65536 → a * b ≤ 65535 * 65535
product16_most a b h k = mul-le-mul {n₁ = a} {m₁ = b} {n₂ = 65535} {m₂ = 65535} (omega arith) (omega arith)

-- the law for a number's own lowest part, whose product with what is carried in is p
part_sum : (a factor carry p : ℕ) → p ≡ a % 65536 * factor + carry → a * factor + carry ≡ (a / 65536 * factor + p / 65536) * 65536 + p % 65536
part_sum a factor carry p e =
    let whole : a ≡ a / 65536 * 65536 + a % 65536 = omega arith in
    ap (λ n. n * factor + carry) whole
    ∙ parts_sum (a / 65536) (a % 65536) factor carry
    ∙ ap (λ n. (a / 65536 * factor + n / 65536) * 65536 + n % 65536) (sym e)

-- three parts, each with what the part below carries, joined by shifts
pub three_parts : (amount factor low middle high : ℕ) → amount < 2 ^ 48 → high < 2 ^ 32
    → low ≡ amount % 65536 * factor + 0
    → middle ≡ amount / 2 ^ 16 % 65536 * factor + low / 2 ^ 16
    → high ≡ amount / 2 ^ 16 / 2 ^ 16 % 65536 * factor + middle / 2 ^ 16
    → high * 2 ^ 32 % 2 ^ 64 + (middle % 65536 * 2 ^ 16 % 2 ^ 32 + low % 65536) ≡ amount * factor
three_parts amount factor low middle high h k l m t =
    let above = amount / 65536 in
    let top = above / 65536 in
    let small : top / 65536 ≡ 0 = omega arith in
    omega (arith, ap (λ n. n * factor) small, part_sum amount factor 0 low l, part_sum above factor (low / 65536) middle m, part_sum top factor (middle / 65536) high t)
