-- The text of a frame: its kind and its fields, with numbers in decimal and octets in hexadecimal.
use Rattle.std.specs.Prelude.{ℕ, ◌+◌, ◌/◌, ◌%◌, cond, List, [], ◌∷◌, ◌++◌, codes, decimal, nat_lt}
use Rattle.std.specs.List.{flat_map}
use Rattle.kind.specs.declared.Kind.{Kind}
use Rattle.kind.specs.Kinds.{name_of}
use Rattle.layout.specs.Fields.{Part}
use Rattle.layout.specs.Elements.{Element, test, topology_change, link_down, link_up, common, end, none}

-- a hexadecimal digit: 0 to 9, A to F
abbrev pub digit_text : ℕ → ℕ
digit_text n = cond (nat_lt n 10) (48 + n) (55 + n)

-- an octet as two digits
abbrev pub pair_text : ℕ → List ℕ
pair_text n = digit_text (n / 16) ∷ digit_text (n % 16) ∷ []

-- octets with dashes between them
abbrev pub octets_text : List ℕ → List ℕ
octets_text [] = []
octets_text (x ∷ xs) = pair_text x ++ flat_map (λ y. 45 ∷ pair_text y) xs

-- the fields of LinkDown and LinkUp
abbrev pub link_text : Part → ℕ → ℕ → ℕ → List ℕ
link_text sender role interval blocked =
    codes " sender=" ++ (octets_text sender.octets ++ (codes " role=" ++ (decimal role ++ (codes " interval=" ++ (decimal interval ++ (codes " blocked=" ++ decimal blocked))))))

-- what Test says of the ring
abbrev pub ring_text : ℕ → ℕ → ℕ → ℕ → List ℕ
ring_text role state transitions stamp =
    codes " role=" ++ (decimal role ++ (codes " state=" ++ (decimal state ++ (codes " transitions=" ++ (decimal transitions ++ (codes " stamp=" ++ decimal stamp))))))

-- the fields of Test
abbrev pub test_text : ℕ → Part → ℕ → ℕ → ℕ → ℕ → List ℕ
test_text priority sender role state transitions stamp =
    codes " priority=" ++ (decimal priority ++ (codes " sender=" ++ (octets_text sender.octets ++ ring_text role state transitions stamp)))

-- the fields of a first element
abbrev pub content_text : Element → List ℕ
content_text (test p s r t n c) = test_text p s r t n c
content_text (topology_change p s i) = codes " priority=" ++ (decimal p ++ (codes " sender=" ++ (octets_text s.octets ++ (codes " interval=" ++ decimal i))))
content_text (link_down s r i b) = link_text s r i b
content_text (link_up s r i b) = link_text s r i b
content_text (common n d) = []
content_text end = []
content_text none = []

-- a frame: its kind, source, fields, sequence and domain
abbrev pub frame_text : Kind → Part → Element → ℕ → Part → List ℕ
frame_text kind source first sequence domain =
    name_of kind ++ (codes " source=" ++ (octets_text source.octets ++ (content_text first ++ (codes " sequence=" ++ (decimal sequence ++ (codes " domain=" ++ octets_text domain.octets))))))
