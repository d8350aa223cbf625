-- What is left of the word goes on from the value so far.
use Rattle.std.proofs.Common.{◌≡◌, ◌≤◌, drop}
use Rattle.std.specs.Option.{option_map}
use Rattle.words.specs.Numbers.{digits_after, capped}
use Rattle.words.proofs.number.decimal.Given as goal

abbrev pub invariant-loop-c : goal.invariant-loop-c
invariant-loop-c l = (option_map capped (digits_after l.value (drop l.c-index l.word)) ≡ option_map capped (digits_after 0 l.word)) × (l.value ≤ 65535)
