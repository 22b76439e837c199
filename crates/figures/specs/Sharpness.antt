-- A frame, found by search, whose green at row 2 and column 2, with smoothing 0, is more than 51 hundredths away from the exact green. proofs/NotFiftyOne.antt has the theorem. Assumes nothing.
use Rattle.std.specs.Prelude.{ℕ, List, [], ◌∷◌}

-- 8 by 8, layout 0
abbrev pub readings51 : List ℕ
readings51 =
    4094 ∷ 0 ∷ 256 ∷ 4095 ∷ 487 ∷ 2706 ∷ 4089 ∷ 2355
    ∷ 4095 ∷ 0 ∷ 4095 ∷ 4095 ∷ 3 ∷ 4095 ∷ 4095 ∷ 3815
    ∷ 4095 ∷ 55 ∷ 0 ∷ 0 ∷ 4095 ∷ 255 ∷ 4095 ∷ 2335
    ∷ 243 ∷ 0 ∷ 4095 ∷ 4095 ∷ 64 ∷ 4095 ∷ 1517 ∷ 4094
    ∷ 1344 ∷ 0 ∷ 123 ∷ 2872 ∷ 5 ∷ 4095 ∷ 4086 ∷ 5
    ∷ 439 ∷ 4 ∷ 1600 ∷ 1211 ∷ 3989 ∷ 6 ∷ 0 ∷ 4
    ∷ 1894 ∷ 64 ∷ 677 ∷ 1587 ∷ 1615 ∷ 2 ∷ 0 ∷ 4087
    ∷ 26 ∷ 4093 ∷ 6 ∷ 0 ∷ 4095 ∷ 3848 ∷ 1457 ∷ 4092
    ∷ []
