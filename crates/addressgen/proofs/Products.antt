-- The product of two numbers of 32 bits is one of 64. Assumes nothing.
use Rattle.std.proofs.Common.{ℕ, ◌*◌, ◌^◌, ◌<◌, ◌≤◌, mul-le-mul, arith}

pub product_fits : (x y : ℕ) → x < 2 ^ 32 → y < 2 ^ 32 → x * y < 2 ^ 64
product_fits x y h g =
    let x_most : x ≤ 4294967295 = omega arith in
    let y_most : y ≤ 4294967295 = omega arith in
    omega (arith, mul-le-mul x_most y_most)
