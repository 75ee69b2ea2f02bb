-- What it means that no second outcome meets a contract. Assumes nothing.
use Rattle.std.specs.Prelude.{◌≡◌, List, ℕ}
use Rattle.std.proofs.Common.{sym, ◌∙◌}
use contract.Lifetimes.{Lfts}
use denote.Triple.Clauses.{AtExit}
use borrow.Fn.Kinds.{ParamKind, ResultKind, Out, Dens, res_t, ended_of}

-- Of `post`, what the checker reads of a function's `ensures` clauses: whatever two results, each with the lent
-- parameters at exit, it allows on the same arguments, the outcome that `seen` shows of them is the same.
abbrev pub OneOutcome : (n : ℕ) (ps : List (ParamKind n)) (r : ResultKind n) {A : Type 0} → Out n ps r
    → (seen : (κs : Lfts n) → (res_t r κs).Denot → AtExit (ended_of n ps r) κs → A) → Type 0
OneOutcome n ps r post seen =
    (κs : Lfts n) (arguments : Dens κs ps) (result result' : (res_t r κs).Denot)
    (exit exit' : AtExit (ended_of n ps r) κs)
    → post κs arguments result exit
    → post κs arguments result' exit'
    → seen κs result exit ≡ seen κs result' exit'

-- The same of a function that lends no array to be written: its outcome is its result.
abbrev pub OneResult : (n : ℕ) (ps : List (ParamKind n)) (r : ResultKind n) → Out n ps r → Type 0
OneResult n ps r post =
    (κs : Lfts n) (arguments : Dens κs ps) (result result' : (res_t r κs).Denot)
    (exit exit' : AtExit (ended_of n ps r) κs)
    → post κs arguments result exit
    → post κs arguments result' exit'
    → result ≡ result'

-- A promise that equates the outcome with what the definitions give is met by one outcome only.
pub one_outcome : {A : Type 0} {given outcome outcome' : A} → outcome ≡ given → outcome' ≡ given → outcome ≡ outcome'
one_outcome p q = p ∙ sym q
