-- A table holds, claim by claim. Assumes nothing.

infixr 5 ◌and◌
pub ◌and◌ : {A B : Type 0} → A → B → A × B
a and b = (a, b)
