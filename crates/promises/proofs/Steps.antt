-- An order of checks as a row of steps: an answer stops at a step, or goes on where none can stop there.
--     step_once    two answers to one input stop at the same step, and what a step answers is one thing
--     passed       an answer that cannot stop at a step goes on
-- Assumes nothing.
use Rattle.rules_calls.specs.declared.Record.{Record}
use Rattle.promises.specs.Reasons.{SameButLead}

abbrev pub Once : (Record → Type 0) → Type 0
Once A = (a b : Record) → A a → A b → SameButLead a b

abbrev pub Never : (Record → Type 0) → Type 0
Never A = (a : Record) → A a → ⊥

pub data Step (A B : Record → Type 0) (a : Record) : Type 0 where
  stop : A a → Step A B a
  on : Never A → B a → Step A B a

pub step_once : {A B : Record → Type 0} → Once A → Once B → Once (Step A B)
step_once f g a b (stop x) (stop y) = f a b x y
step_once f g a b (stop x) (on n y) = absurd (n a x)
step_once f g a b (on n x) (stop y) = absurd (n b y)
step_once f g a b (on n x) (on m y) = g a b x y

pub passed : {A B : Record → Type 0} {a : Record} → Never A → Step A B a → B a
passed {a = a} n (stop x) = absurd (n a x)
passed n (on m y) = y
