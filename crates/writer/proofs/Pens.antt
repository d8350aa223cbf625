-- Octets that a pen puts, each after those before it.
use Rattle.std.proofs.Common.{◌≡◌, List, ◌++◌, ℕ, length, drop, sym, ap, ◌∙◌, append_assoc, length-append}
use Rattle.std.proofs.lemmas.List.{drop-drop}
use Rattle.writer.specs.declared.pen.Pen.{Pen}
use Rattle.writer.specs.Pens.{done, left, Puts}

-- before the pen are these octets after the first ones, and what followed the first ones follows the pen, but for as many octets
pub record Written (first octets following : List ℕ) (q : Pen) : Type 0 where
  pub puts : done q ≡ first ++ octets
  pub keeps : left q ≡ drop (length octets) following

pub more : {first xs following : List ℕ} {q : Pen} (r : Pen) (ys : List ℕ) → Written first xs following q → Puts ys q r → Written first (xs ++ ys) following r
more {first} {xs} {following} {q} r ys w k = record {
  puts = k.1 ∙ ap (λ l. l ++ ys) w.puts ∙ append_assoc first xs ys;
  keeps = k.2 ∙ ap (drop (length ys)) w.keeps ∙ drop-drop (length ys) (length xs) following ∙ ap (λ n. drop n following) (sym (length-append xs ys));
}
