-- Laws of a property of every element of a list. Assumes nothing.
use mathlib.Core.Path.{◌≡◌, refl, ap₂}
use mathlib.Core.List.{List, [], ◌∷◌, map}
use Rattle.lists.specs.Every.{Every}

pub every : {A : Type 0} {P Q : A → Type 0} → ((x : A) → P x → Q x) → (l : List A) → Every P l → Every Q l
every f [] h = tt
every f (x ∷ l) h = (f x h.0, every f l h.1)

pub everywhere : {A : Type 0} {P : A → Type 0} → ((x : A) → P x) → (l : List A) → Every P l
everywhere h [] = tt
everywhere h (x ∷ l) = (h x, everywhere h l)

-- rules that agree where P holds give the same list
pub map_same : {A B : Type 0} {P : A → Type 0} (u v : A → B) → ((x : A) → P x → u x ≡ v x) → (l : List A) → Every P l → map u l ≡ map v l
map_same u v h [] e = refl
map_same u v h (x ∷ l) e = ap₂ (λ a b. a ∷ b) (h x e.0) (map_same u v h l e.1)
