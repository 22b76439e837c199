-- Room of which only the first places are used, and room that two lists share. Assumes nothing.
use Prim.Native.Nat.{ℕ, ◌-◌, ◌*◌, ◌≤◌, ◌<◌}
use mathlib.Core.List.{List, ◌++◌}
use mathlib.Core.Path.{◌≡◌, refl, ap, ◌∙◌}
use native.Mathlib.Omega.{arith}
use lib.ListN.{length, take, drop, length-append, length-drop}
use lib.Seq.{length-take-le}
use Rattle.lists.specs.Table.{table}
use Rattle.lists.proofs.TableLaws.{length-table, table_same}
use Rattle.lists.proofs.PartLaws.{length_part, first_part, placed}
use Rattle.lists.proofs.JoinedLaws.{two-tables}

-- the first n places of a list, handed on, and then a list of 2 n places of which the others are handed on too
module _ {A : Type 0} (n : ℕ) (l : List A) where
  abbrev lent : List A → List A
  lent a = a ++ drop (n - 0) l

  pub front : n ≤ length l → length (take (n - 0) l) ≡ n
  front h = length-take-le (n - 0) l (omega arith) ∙ omega arith

  pub lent_length : n ≤ length l → (a : List A) → length a ≡ length (take (n - 0) l) → length (lent a) ≡ length l
  lent_length h a e = length-append a (drop (n - 0) l) ∙ simp length-drop (omega (arith, e, front h))

  pub back : length l ≡ 2 * n → (a : List A) → length a ≡ length (take (n - 0) l) → length (take (length (lent a) - n) (drop n (lent a))) ≡ n
  back size a e =
      let k = lent_length (omega arith) a e in
      length_part n (length (lent a) - n) (lent a) (omega arith) ∙ omega arith

  pub two-halves : length l ≡ 2 * n → (f g : ℕ → A) {a e : List A} → a ≡ table f (length (take (n - 0) l)) → e ≡ table g (length (take (length (lent a) - n) (drop n (lent a))))
      → placed n (length (lent a)) (lent a) e ≡ table f n ++ table g n
  two-halves size f g {a} a-is e-is = two-tables n n (drop (n - 0) l) refl refl (front (omega arith)) (back size a (ap length a-is ∙ length-table _ _)) a-is e-is

-- they hold what was put there, and what another rule gives, which agrees
pub front-again : {A : Type 0} (n : ℕ) (l : List A) {a : List A} → n ≤ length l → length a ≡ length (take (n - 0) l) → take (n - 0) (a ++ drop (n - 0) l) ≡ a
front-again n l {a} h e = first_part n (n - 0) a (drop (n - 0) l) refl (e ∙ front n l h) (omega arith)

pub front-table : {A : Type 0} (f g : ℕ → A) (n : ℕ) (l : List A) {a : List A} → n ≤ length l → a ≡ table f (length (take (n - 0) l)) → ((k : ℕ) → k < n → f k ≡ g k) → take (n - 0) (a ++ drop (n - 0) l) ≡ table g n
front-table f g n l {a} h a-is same =
    let e = front n l h in
    front-again n l h (ap length a-is ∙ length-table f _) ∙ a-is ∙ ap (table f) e ∙ table_same f g n same
