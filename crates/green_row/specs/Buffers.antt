-- Between which bounds the buffers of a row's differences, gradients and direction sums lie, how long they are, and what room a row takes. Assumes nothing.
use Rattle.std.specs.Prelude.{ℕ, ◌+◌, ◌*◌, ◌/◌, ◌≤◌, ◌≡◌, List, ℤ}
use Rattle.lists.specs.Bound.{AllAtMost, AllWithin}
use Rattle.gbtf.specs.Bounds.{most_difference, most_gradient, most_sum}

-- what stands in them is worked out from readings
pub record InRange (dh dv : List ℤ) (gh tv : List ℕ) : Type 0 where
  pub dh-within : AllWithin most_difference dh
  pub dv-within : AllWithin most_difference dv
  pub gh-within : AllAtMost most_gradient gh
  pub tv-within : AllAtMost most_sum tv

-- their lengths for a row of w columns, where rows of the first three are s places wide
pub record AroundRow (w s dh dv gh tv : ℕ) : Type 0 where
  pub wide : w + 14 ≤ s
  pub narrow : s ≤ 4110
  pub dh-long : dh ≡ 3 * s
  pub dv-long : dv ≡ 9 * s
  pub gh-long : gh + 4 ≡ 3 * s
  pub tv-long : tv ≡ 3 * ((w + 1) / 2)

-- room for a row: how many columns it suffices for, and how long its parts are
pub record RowSizes : Type 0 where
  pub columns : ℕ
  pub sums : ℕ
  pub fives : ℕ
  pub added : ℕ
  pub half : ℕ
  pub other_half : ℕ

-- lengths that suffice for a row of up to w columns
pub record RowRoomFor (w sums fives added half other_half : ℕ) : Type 0 where
  pub for-sums : (w + 1) / 2 + 1 ≤ sums
  pub for-fives : 4 * ((w + 1) / 2) ≤ fives
  pub for-added : (w + 1) / 2 ≤ added
  pub for-half : (w + 1) / 2 ≤ half
  pub for-other-half : (w + 1) / 2 ≤ other_half
