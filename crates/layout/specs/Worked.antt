-- Worked cases: a TopologyChange of 50 octets and what becomes of it when it is cut, padded or altered.
use Rattle.std.specs.Prelude.{◌≡◌, ℕ, List, [], ◌∷◌, ◌++◌, take, replicate}
use Rattle.layout.specs.Elements.{topology_change}
use Rattle.layout.specs.Reading.{Reading, refused, accepted, reading}

-- node 0 of a ring, 02-00-00-00-00-00
abbrev pub node0 : List ℕ
node0 = 0x02 ∷ 0 ∷ 0 ∷ 0 ∷ 0 ∷ 0 ∷ []

-- interval 30, with the last octets of the destination and of the priority left open
abbrev pub change : ℕ → ℕ → List ℕ
change to priority =
    (0x01 ∷ 0x15 ∷ 0x4E ∷ 0x00 ∷ 0x00 ∷ to ∷ []) ++ node0 ++ (0x88 ∷ 0xE3 ∷ 0x00 ∷ 0x01 ∷ [])
    ++ (0x03 ∷ 0x0A ∷ 0x80 ∷ priority ∷ []) ++ node0 ++ (0x00 ∷ 0x1E ∷ [])
    ++ (0x01 ∷ 0x12 ∷ 0x00 ∷ 0x00 ∷ []) ++ replicate 16 0xFF ++ (0x00 ∷ 0x00 ∷ [])

abbrev pub accepted_change : Reading
accepted_change = accepted (record { at = 6; octets = node0 }) (topology_change 0x8000 (record { at = 20; octets = node0 }) 30) 0 (record { at = 32; octets = replicate 16 0xFF })

pub record WorkedCases : Type 0 where
  pub whole : reading (change 2 0) ≡ accepted_change
  pub cut : reading (take 49 (change 2 0)) ≡ refused 1
  pub padded : reading (change 2 0 ++ replicate 10 0) ≡ accepted_change
  pub long : reading (change 2 0 ++ replicate 11 0) ≡ refused 1
  pub trailing : reading (change 2 0 ++ (1 ∷ [])) ≡ refused 11
  pub elsewhere : reading (change 1 0) ≡ refused 7
  pub priority : reading (change 2 1) ≡ refused 8
