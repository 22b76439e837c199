-- Directional difference (source 004, equation 4) and plain gradient (equation 11). Assumes nothing.
use Rattle.std.specs.Prelude.{ℕ, Bool, true, false, cond, ℤ, pos, nat_abs, neg_ℤ, ◌+ℤ◌, ◌-ℤ◌, ◌*ℤ◌}

-- green minus colour (equation 8, one of the two estimated by equation 4), in quarter steps: centre c, neighbours l and r, second neighbours p and q; whether c is green
unfoldable pub difference : (green : Bool) (c l r p q : ℕ) → ℤ
difference false c l r p q = pos 2 *ℤ (pos l +ℤ pos r) -ℤ pos 2 *ℤ pos c -ℤ pos p -ℤ pos q
difference true c l r p q = pos 2 *ℤ pos c -ℤ pos 2 *ℤ (pos l +ℤ pos r) +ℤ pos p +ℤ pos q

-- document 02's plain gradient, from the differences before and after a position (equation 11)
abbrev pub plain_gradient : (before after : ℤ) → ℕ
plain_gradient before after = nat_abs (before -ℤ after)

-- at a green centre a difference has the other sign than the steps of a red or blue one give
abbrev pub turned : (green : Bool) → ℤ → ℤ
turned green d = cond green (neg_ℤ d) d
