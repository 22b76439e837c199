-- Laws of fractions and of their distance. Each is shown for one side, `AtMost`, and paired. Assumes nothing.
use mathlib.Core.Path.{◌≡◌, refl, ap}
use mathlib.Core.Bool.{Bool, true, false, cond}
use Prim.Native.Nat.{ℕ, ◌+◌, ◌*◌, ◌-◌, ◌≤◌, ◌<◌}
use native.Mathlib.Nat.{mul-le-mul_left, le_of_mul-le-mul_left, add_comm, add-zero, zero-add}
use native.Mathlib.Decide.{dec_le}
use native.Mathlib.Omega.{arith}
use lib.IntN.{ℤ, pos, negsuc, ◌+ℤ◌}
use Rattle.whole.specs.Floor.{floor_div}
use Rattle.whole.specs.Clamp.{clamp}
use Rattle.whole.specs.Fraction.{Fraction, ratio, integer, natural, ◌+ᶠ◌, ◌-ᶠ◌, negᶠ, divided_by, clampᶠ, AtMost, Within, Same}
use Rattle.whole.proofs.Pairs.{+ℤ-up}
use Rattle.whole.proofs.FloorLaws.{floor-low, floor-high}

-- ---- sums of inequalities, by equations

pub add-up : {A B C D G H : ℕ} (c : ℕ) → A ≤ B → C ≤ D → A + C ≡ G + c → B + D ≡ H + c → G ≤ H
add-up c h k e f = omega arith

-- ---- one side

trans_left : (xp xu yp yn yu zn zu b : ℕ) → zu * (b * (xp * yu + yn * xu)) + xu * (b * (yp * zu + zn * yu)) ≡ yu * (b * (xp * zu + zn * xu)) + (xu * (b * (yp * zu)) + zu * (b * (yn * xu)))
trans_left xp xu yp yn yu zn zu b = omega arith

trans_right : (xn xu yp yn yu zp zu a c b : ℕ)
    → zu * (b * (yp * xu + xn * yu) + a * (xu * yu)) + xu * (b * (zp * yu + yn * zu) + c * (yu * zu)) ≡ yu * (b * (zp * xu + xn * zu) + (a + c) * (xu * zu)) + (xu * (b * (yp * zu)) + zu * (b * (yn * xu)))
trans_right xn xu yp yn yu zp zu a c b = omega arith

pub atmost-trans : (x y z : Fraction) (a c b : ℕ) → AtMost x y a b → AtMost y z c b → AtMost x z (a + c) b
atmost-trans x y z a c b h k =
    le_of_mul-le-mul_left {k = y.under}
    (add-up _ (mul-le-mul_left z.under h) (mul-le-mul_left x.under k) (trans_left x.plus x.under y.plus y.minus y.under z.minus z.under b)
    (trans_right x.minus x.under y.plus y.minus y.under z.plus z.under a c b)) y.proper

add_left : (xp xu yn yu up uu vn vu b : ℕ) → (uu * vu) * (b * (xp * yu + yn * xu)) + (xu * yu) * (b * (up * vu + vn * uu)) ≡ b * ((xp * uu + up * xu) * (yu * vu) + (yn * vu + vn * yu) * (xu * uu))
add_left xp xu yn yu up uu vn vu b = omega arith

add_right : (xn xu yp yu un uu vp vu a c b : ℕ)
    → (uu * vu) * (b * (yp * xu + xn * yu) + a * (xu * yu)) + (xu * yu) * (b * (vp * uu + un * vu) + c * (uu * vu)) ≡ b * ((yp * vu + vp * yu) * (xu * uu) + (xn * uu + un * xu) * (yu * vu)) + (a + c) * ((xu * uu) * (yu * vu))
add_right xn xu yp yu un uu vp vu a c b = omega arith

pub both : {A B C D G H : ℕ} → A ≤ B → C ≤ D → A + C ≡ G → B + D ≡ H → G ≤ H
both h k e f = omega arith

pub atmost-add : (x y u v : Fraction) (a c b : ℕ) → AtMost x y a b → AtMost u v c b → AtMost (x +ᶠ u) (y +ᶠ v) (a + c) b
atmost-add x y u v a c b h k =
    both (mul-le-mul_left (u.under * v.under) h) (mul-le-mul_left (x.under * y.under) k) (add_left x.plus x.under y.minus y.under u.plus u.under v.minus v.under b)
    (add_right x.minus x.under y.plus y.under u.minus u.under v.plus v.under a c b)

pub atmost-neg : (x y : Fraction) (a b : ℕ) → AtMost x y a b → AtMost (negᶠ y) (negᶠ x) a b
atmost-neg x y a b h = omega arith

pub atmost-part : (x y : Fraction) (n : ℕ) (p : 0 < n) (a b : ℕ) → AtMost x y (n * a) b → AtMost (divided_by x n p) (divided_by y n p) a b
atmost-part x y n p a b h = omega (arith, mul-le-mul_left n h)

pub atmost-same : (x y : Fraction) (b : ℕ) → Same x y → AtMost x y 0 b
atmost-same x y b e = omega (arith, ap (λ n. b * n) e)

wider-core : (L R U a b c d : ℕ) → 0 < b → a * d ≤ c * b → b * L ≤ b * R + a * U → d * L ≤ d * R + c * U
wider-core L R U a b c d p h k = le_of_mul-le-mul_left {k = b} (omega (arith, mul-le-mul_left d k, mul-le-mul_left U h)) p

pub atmost-wider : (x y : Fraction) (a b c d : ℕ) → 0 < b → a * d ≤ c * b → AtMost x y a b → AtMost x y c d
atmost-wider x y a b c d p h k = wider-core (x.plus * y.under + y.minus * x.under) (y.plus * x.under + x.minus * y.under) (x.under * y.under) a b c d p h k

-- u and v are the two fractions, clamped to 0 and M: v is at its top; or x is at most 0; or neither
clamp-top : (M xu yu u v a b : ℕ) → u ≤ M * xu → M * yu ≤ v → b * (u * yu + 0 * xu) ≤ b * (v * xu + 0 * yu) + a * (xu * yu)
clamp-top M xu yu u v a b h k = omega (arith, mul-le-mul_left (b * yu) h, mul-le-mul_left (b * xu) k)

clamp-zero : (xu yu u v a b : ℕ) → u ≡ 0 → b * (u * yu + 0 * xu) ≤ b * (v * xu + 0 * yu) + a * (xu * yu)
clamp-zero xu yu u v a b e = omega (arith, ap (λ n. n * (b * yu)) e)

clamp-mid : (xp xn xu yp yn yu u v a b : ℕ) → b * (xp * yu + yn * xu) ≤ b * (yp * xu + xn * yu) + a * (xu * yu) → u + xn ≤ xp → yp ≤ v + yn → b * (u * yu + 0 * xu) ≤ b * (v * xu + 0 * yu) + a * (xu * yu)
clamp-mid xp xn xu yp yn yu u v a b h k l = omega (arith, mul-le-mul_left (b * yu) k, mul-le-mul_left (b * xu) l)

pub atmost-clamp : (x y : Fraction) (a b : ℕ) → AtMost x y a b → AtMost (clampᶠ x) (clampᶠ y) a b
atmost-clamp x y a b h = go (dec_le (65520 * y.under) (y.plus - y.minus)) (dec_le x.plus x.minus)
  where
    go : Dec (65520 * y.under ≤ y.plus - y.minus) → Dec (x.plus ≤ x.minus) → AtMost (clampᶠ x) (clampᶠ y) a b
    go (yes t) d = clamp-top 65520 x.under y.under _ _ a b (omega arith) (omega arith)
    go (no f) (yes z) = clamp-zero x.under y.under _ _ a b (omega arith)
    go (no f) (no g) = clamp-mid x.plus x.minus x.under y.plus y.minus y.under _ _ a b h (omega arith) (omega arith)

-- ---- both sides

pub within-trans : {x y z : Fraction} {a c b : ℕ} → Within x y a b → Within y z c b → Within x z (a + c) b
within-trans {x} {y} {z} {a} {c} {b} h k = record { low = atmost-trans x y z a c b h.low k.low; high = rw (add_comm a c) (atmost-trans z y x c a b k.high h.high) }

pub within-add : {x y u v : Fraction} {a c b : ℕ} → Within x y a b → Within u v c b → Within (x +ᶠ u) (y +ᶠ v) (a + c) b
within-add {x} {y} {u} {v} {a} {c} {b} h k = record { low = atmost-add x y u v a c b h.low k.low; high = atmost-add y x v u a c b h.high k.high }

pub within-neg : {x y : Fraction} {a b : ℕ} → Within x y a b → Within (negᶠ x) (negᶠ y) a b
within-neg {x} {y} {a} {b} h = record { low = atmost-neg y x a b h.high; high = atmost-neg x y a b h.low }

pub within-sub : {x y u v : Fraction} {a c b : ℕ} → Within x y a b → Within u v c b → Within (x -ᶠ u) (y -ᶠ v) (a + c) b
within-sub {x} {y} {u} {v} h k = within-add {x = x} {y = y} {u = negᶠ u} {v = negᶠ v} h (within-neg {x = u} {y = v} k)

pub within-part : {x y : Fraction} (n : ℕ) (p : 0 < n) {a b : ℕ} → Within x y (n * a) b → Within (divided_by x n p) (divided_by y n p) a b
within-part {x} {y} n p {a} {b} h = record { low = atmost-part x y n p a b h.low; high = atmost-part y x n p a b h.high }

pub within-clamp : {x y : Fraction} {a b : ℕ} → Within x y a b → Within (clampᶠ x) (clampᶠ y) a b
within-clamp {x} {y} {a} {b} h = record { low = atmost-clamp x y a b h.low; high = atmost-clamp y x a b h.high }

pub within_same : {x y : Fraction} (b : ℕ) → Same x y → Within x y 0 b
within_same {x} {y} b e = record { low = atmost-same x y b e; high = atmost-same y x b (omega arith) }

-- a/b is at most c/d
pub within_wider : {x y : Fraction} {a b : ℕ} (c d : ℕ) → 0 < b → a * d ≤ c * b → Within x y a b → Within x y c d
within_wider {x} {y} {a} {b} c d p h k = record { low = atmost-wider x y a b c d p h k.low; high = atmost-wider y x a b c d p h k.high }

-- one number may be put for the same one on either side (the two are named, since `Same` does not determine them)
pub within-from : (x y : Fraction) {z : Fraction} {a b : ℕ} → Same x y → Within y z a b → Within x z a b
within-from x y {z} {a} {b} e h = rw (zero-add a) at (within-trans {x = x} {y = y} {z = z} {a = 0} (within_same {x = x} {y = y} b e) h)

pub within-to : {x : Fraction} (y z : Fraction) {a b : ℕ} → Within x y a b → Same y z → Within x z a b
within-to {x} y z {a} {b} h e = rw (add-zero a) at (within-trans {x = x} {y = y} {z = z} {c = 0} h (within_same {x = y} {y = z} b e))

pub within-shift : (n : Fraction) {x y : Fraction} {a b : ℕ} → Within x y a b → Within (n +ᶠ x) (n +ᶠ y) a b
within-shift n {x} {y} {a} {b} h = rw (zero-add a) at (within-add {x = n} {y = n} {u = x} {v = y} {a = 0} (within_same {x = n} {y = n} b refl) h)

pub within-less : (n : Fraction) {x y : Fraction} {a b : ℕ} → Within x y a b → Within (x -ᶠ n) (y -ᶠ n) a b
within-less n {x} {y} {a} {b} h = rw (add-zero a) at (within-sub {x = x} {y = y} {u = n} {v = n} {c = 0} h (within_same {x = n} {y = n} b refl))

pub within-cond : (b : Bool) {x y : ℕ} {X Y : Fraction} {a c : ℕ} → Within (natural x) X a c → Within (natural y) Y a c → Within (natural (cond b x y)) (cond b X Y) a c
within-cond true h k = h
within-cond false h k = k

pub within-eq : {x y : Fraction} {a c b : ℕ} → a ≡ c → Within x y a b → Within x y c b
within-eq e h = rw e at h

-- ---- whole numbers as fractions

pub clamp-is : (z : ℤ) → Same (natural (clamp z)) (clampᶠ (integer z))
clamp-is (pos n) = omega arith
clamp-is (negsuc n) = omega arith

pub sum_is : (c : ℕ) (z : ℤ) → Same (integer (pos c +ℤ z)) (natural c +ᶠ integer z)
sum_is c z = omega (arith, +ℤ-up (pos c) z)

-- rounding to the nearest: the floor of (z + h) / (2h) is within 1/2 of z / (2h)
pub rounded-near : (z : ℤ) (h : ℕ) (p : 0 < 2 * h) → Within (integer (floor_div (z +ℤ pos h) (2 * h))) (ratio z (2 * h) p) 1 2
rounded-near z h p = record { low = omega (arith, floor-low (z +ℤ pos h) (2 * h) p, +ℤ-up z (pos h)); high = omega (arith, floor-high (z +ℤ pos h) (2 * h) p, +ℤ-up z (pos h)) }
