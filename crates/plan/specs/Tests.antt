-- "Refusal by number": numbered tests, of which the first that applies decides. Assumes nothing.
use Rattle.std.specs.Prelude.{ℕ, ◌≡◌, Bool, true, false, cond, ◌||◌, List, [], ◌∷◌, ltb}

-- The number of a refusal, and whether the rule is broken.
pub record Test : Type 0 where
  pub number : ℕ
  pub broken : Bool

-- The test of a number.
abbrev pub test : ℕ → Bool → Test
test number broken = record { number = number; broken = broken }

-- The number of the first broken rule, or 0.
abbrev pub first_broken : List Test → ℕ
first_broken [] = 0
first_broken (t ∷ ts) = cond t.broken t.number (first_broken ts)

-- The rule is kept.
abbrev pub Unbroken : Test → Type 0
Unbroken t = t.broken ≡ false

-- The number k is that of a test that is broken, and none before it is.
pub data First : List Test → ℕ → Type 0 where
  here : {t : Test} {ts : List Test} {k : ℕ} → t.broken ≡ true → t.number ≡ k → First (t ∷ ts) k
  later : {t : Test} {ts : List Test} {k : ℕ} → Unbroken t → First ts k → First (t ∷ ts) k

-- The number x is not one of lowest to highest.
abbrev pub outside : ℕ → ℕ → ℕ → Bool
outside lowest highest x = ltb x lowest || ltb highest x

module _ {A : Type 0} where
  -- Some element of a list passes a test.
  abbrev pub any_of : (A → Bool) → List A → Bool
  any_of f [] = false
  any_of f (x ∷ xs) = f x || any_of f xs
