-- Proofs by cases on a test. Assumes nothing.
use Rattle.std.specs.Prelude.{◌≡◌, refl, Bool, true, false, ◌&&◌, ◌||◌, if◌then◌else◌}
use Rattle.std.proofs.Common.{sym, ◌∙◌, true≢false}
use Rattle.std.proofs.lemmas.Bool.{false≢true}

pub by_test : {A : Type 0} (P : A → Type 0) (test : Bool) {yes no : A} → (test ≡ true → P yes) → (test ≡ false → P no)
    → P (if test then yes else no)
by_test P true p q = p refl
by_test P false p q = q refl

-- the same of two things that branch on one test
pub by_both : {A : Type 0} (P : A → A → Type 0) (test : Bool) {yes no yes' no' : A} → (test ≡ true → P yes yes')
    → (test ≡ false → P no no')
    → P (if test then yes else no) (if test then yes' else no')
by_both P true p q = p refl
by_both P false p q = q refl

-- a test's two values, with the equation
pub by_value : {A : Type 0} (test : Bool) → (test ≡ true → A) → (test ≡ false → A) → A
by_value true p q = p refl
by_value false p q = q refl

pub never : {A : Type 0} {test : Bool} → test ≡ true → test ≡ false → A
never p q = absurd (true≢false (sym p ∙ q))

pub and_left : (a b : Bool) → (a && b) ≡ true → a ≡ true
and_left true b e = refl
and_left false b e = absurd (false≢true e)

pub and_right : (a b : Bool) → (a && b) ≡ true → b ≡ true
and_right true b e = e
and_right false b e = absurd (false≢true e)

pub or_left : (a b : Bool) → (a || b) ≡ false → a ≡ false
or_left true b e = e
or_left false b e = refl

pub or_else : (a b : Bool) → (a || b) ≡ true → a ≡ false → b ≡ true
or_else true b e f = never refl f
or_else false b e f = e
