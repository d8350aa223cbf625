-- What the measured loops do to a switch, and the sum of all that it answers.
use Rattle.std.specs.Prelude.{ℕ, ◌+◌, ◌*◌, ◌%◌, List, Some, None, Ok, Err, Option, Result}
use Rattle.std.specs.List.{fold}
use Rattle.std.specs.Fn.{iterate}
use Rattle.refusal.specs.declared.Refusal.{Refusal}
use Rattle.refusal.specs.Refusals.{number_of}
use Rattle.switch.specs.declared.port.Port.{Port}
use Rattle.switch.specs.declared.port.Port.TheVariants.{One, Two}
use Rattle.switch.specs.Ports.{port_number}
use Rattle.switch.specs.Meanings.{Meaning, fresh}
use Rattle.switch.specs.Calls.{learned, learn_answer}

-- a sum that one more answer has joined, as 32 bits hold it: the order of the answers shows in it
abbrev pub summed : ℕ → ℕ → ℕ
summed sum answer = (sum * 31 % 4294967296 + answer) % 4294967296

-- what stands in the sum for a port that was looked up
abbrev pub port_answer : Option Port → ℕ
port_answer None = 0
port_answer (Some p) = port_number p

-- what stands in the sum for an answer to learning
abbrev pub learn_number : Result (Unit {0}) Refusal → ℕ
learn_number (Ok _) = 0
learn_number (Err r) = number_of r

-- the sum after looking up each address of a list
abbrev pub looked_up : Meaning → List (List ℕ) → ℕ → ℕ
looked_up m list sum = fold (λ s a. summed s (port_answer (m.known a))) sum list

-- a switch, and the sum of its answers so far
pub record Run : Type 0 where
  pub switch : Meaning
  pub sum : ℕ

-- the sum after looking up each address of a list, too
abbrev pub looked_up_then : List (List ℕ) → Run → ℕ
looked_up_then list r = looked_up r.switch list r.sum

-- after learning an address at a port, where the switch has room for k
abbrev pub learned_one : ℕ → Port → Run → List ℕ → Run
learned_one k p r a = record { switch = learned k a p r.switch; sum = summed r.sum (learn_number (learn_answer k a r.switch)) }

-- after learning each address of a list
abbrev pub learned_all : ℕ → Port → List (List ℕ) → Run → Run
learned_all k p list r = fold (learned_one k p) r list

-- a round: each address is learned at port 2, and then each at port 1
abbrev pub both_ways : ℕ → List (List ℕ) → Run → Run
both_ways k list r = learned_all k One list (learned_all k Two list r)

-- a new table switch that has heard each address of a list at port 1
abbrev pub filled_table : List (List ℕ) → Meaning
filled_table list = (learned_all 64 One list (record { switch = fresh; sum = 0 })).switch

-- the sum of n rounds of looking up
abbrev pub look_up_sum : List (List ℕ) → List (List ℕ) → ℕ → ℕ
look_up_sum list asked n = iterate (looked_up (filled_table list) asked) n 0

-- the sum of n rounds of learning, and of looking all up afterwards
abbrev pub learn_sum : List (List ℕ) → List (List ℕ) → ℕ → ℕ
learn_sum list heard n = looked_up_then heard (iterate (both_ways 64 heard) n (record { switch = filled_table list; sum = 0 }))
