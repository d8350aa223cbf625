-- What a pen has put into lent octets, and what follows it there.
use Rattle.std.specs.Prelude.{◌≡◌, List, ◌++◌, ℕ, length, take, drop}
use Rattle.writer.specs.declared.pen.Pen.{Pen}

-- the octets that were put
abbrev pub done : Pen → List ℕ
done p = take p.at p.out.now

-- the octets that follow
abbrev pub left : Pen → List ℕ
left p = drop p.at p.out.now

-- a pen that put these octets: into the same lent octets, of which those that follow stay
abbrev pub Puts : List ℕ → Pen → Pen → Type 0
Puts octets p q = (q.out.ghost_name ≡ p.out.ghost_name) × (done q ≡ done p ++ octets) × (left q ≡ drop (length octets) (left p))
