-- What a store holds, and what each call answers and leaves.
use Rattle.std.specs.Prelude.{◌≡◌, ℕ, ◌+◌, ◌-◌, ◌<◌, Bool, true, cond, not, ◌&&◌, ◌||◌, List, [], ◌∷◌, ◌++◌, map, length, is_some, Some, None, Ok, Err, Option, Result, ◌==◌, nat_le, nat_lt, refl}
use Rattle.std.specs.Borrow.{Bor}
use Rattle.std.specs.Coded.{Coded, code_by, coded×, coded_ℕ}
use Rattle.std.specs.FinMap as map
use Rattle.refusal.specs.declared.Refusal.{Refusal}
use Rattle.refusal.specs.declared.Refusal.TheVariants.{FrameSize, RingSize, NoSuchLink, NoSuchDirection, NothingWaits, NotInHand}
use Rattle.store.specs.Counting.{sum_to, count}
use Rattle.store.specs.Maps.{Queued, queued, Queues, Hands, queue_in, hand_in, queues_to, queues_code, hands_code}
use Rattle.store.specs.declared.hand.InHand.{InHand}
use Rattle.store.specs.declared.hand.HandedBack.{HandedBack}
use Rattle.store.specs.declared.hand.Put.{Put}
use Rattle.store.specs.declared.hand.Put.TheVariants.{Waits, Lost}

-- its queues, the frames in hand, and how many places are free
pub record Model : Type 0 where
  pub number : ℕ
  pub links : ℕ
  pub free : ℕ
  pub queues : Queues
  pub hands : Hands

-- a store of these parts
abbrev pub mk_model : ℕ → ℕ → ℕ → Queues → Hands → Model
mk_model k n f q h = record { number = k; links = n; free = f; queues = q; hands = h }

-- how two of them are told apart
abbrev pub model_code : Coded Model
model_code = code_by (ℕ × (ℕ × (ℕ × (Queues × Hands)))) (coded× coded_ℕ (coded× coded_ℕ (coded× coded_ℕ (coded× queues_code hands_code)))) (λ m. (m.number, (m.links, (m.free, (m.queues, m.hands))))) (λ p. mk_model p.0 p.1.0 p.1.1.0 p.1.1.1.0 p.1.1.1.1) (λ _. refl)

-- refused for e, if b
abbrev pub refuses : {A : Type 0} → Bool → Refusal → Result A Refusal → Result A Refusal
refuses b e r = cond b (Err e) r

-- refused where there is no such link of n, then where there is no such direction
abbrev pub on_link : {A : Type 0} → ℕ → ℕ → ℕ → Result A Refusal → Result A Refusal
on_link n l d r = refuses (nat_le n l) NoSuchLink (refuses (nat_le 2 d) NoSuchDirection r)

-- the link and the direction are there
abbrev pub is_link : ℕ → ℕ → Model → Bool
is_link l d m = nat_lt l m.links && nat_lt d 2

-- a new store: all places are free
abbrev pub fresh : ℕ → ℕ → Model
fresh k n = mk_model k n 128 (queues_to n (λ _ _. [])) map.empty

-- a ring has 2 to 50 links
abbrev pub wrong_size : ℕ → Bool
wrong_size n = nat_lt n 2 || nat_lt 50 n

-- what new answers
abbrev pub new_answer : ℕ → ℕ → Result Model Refusal
new_answer k n = refuses (wrong_size n) RingSize (Ok (fresh k n))

-- a frame has 50 to 60 octets
abbrev pub wrong_length : List ℕ → Bool
wrong_length o = nat_lt (length o) 50 || nat_lt 60 (length o)

-- what put answers: with no free place the frame is lost
abbrev pub put_answer : ℕ → ℕ → List ℕ → Model → Result Put Refusal
put_answer l d o m = refuses (wrong_length o) FrameSize (on_link m.links l d (Ok (cond (m.free == 0) Lost Waits)))

-- the frame will wait
abbrev pub put_goes : ℕ → ℕ → List ℕ → Model → Bool
put_goes l d o m = not (wrong_length o) && (is_link l d m && nat_lt 0 m.free)

-- the frame waits last, at the place p
abbrev pub put_in : ℕ → ℕ → ℕ → List ℕ → Model → Model
put_in l d p o m = mk_model m.number m.links (m.free - 1) (map.insert m.queues (l, d) (queue_in m.queues l d ++ queued p o ∷ [])) m.hands

-- what put leaves, if it chose the place p
abbrev pub put_after : ℕ → ℕ → List ℕ → ℕ → Model → Model
put_after l d o p m = cond (put_goes l d o m) (put_in l d p o m) m

-- the places of a queue
abbrev pub places : List Queued → List ℕ
places hs = map (λ h. h.place) hs

-- no frame of the store, waiting or in hand, has the place p
pub record FreeAt (p : ℕ) (m : Model) : Type 0 where
  pub below : p < 128
  pub unheld : hand_in m.hands p ≡ None
  pub unqueued : (l d : ℕ) → count p (places (queue_in m.queues l d)) ≡ 0

-- a put leaves n, and chose the place p
pub record PutInto (l d : ℕ) (o : List ℕ) (m n : Model) (p : ℕ) : Type 0 where
  pub was_free : put_goes l d o m ≡ true → FreeAt p m
  pub after : n ≡ put_after l d o p m

-- the token of the first frame of a queue
abbrev pub token_of : ℕ → List Queued → Result InHand Refusal
token_of k [] = Err NothingWaits
token_of k (h ∷ hs) = Ok (record { store = k; place = h.place })

-- what take answers
abbrev pub take_answer : ℕ → ℕ → Model → Result InHand Refusal
take_answer l d m = on_link m.links l d (token_of m.number (queue_in m.queues l d))

-- the first frame of a queue comes into the hand
abbrev pub taken_as : ℕ → ℕ → List Queued → Model → Model
taken_as l d [] m = m
taken_as l d (h ∷ hs) m = mk_model m.number m.links m.free (map.insert m.queues (l, d) hs) (map.insert m.hands h.place h.octets)

-- what take leaves
abbrev pub take_after : ℕ → ℕ → Model → Model
take_after l d m = cond (is_link l d m) (taken_as l d (queue_in m.queues l d) m) m

-- the token is of this store, and its place is in hand
abbrev pub in_hand : InHand → Model → Bool
in_hand t m = t.store == m.number && is_some (hand_in m.hands t.place)

-- a token that take answers is in hand
abbrev pub Held : Result InHand Refusal → Model → Type 0
Held (Ok t) m = in_hand t m ≡ true
Held (Err e) m = Unit {0}

-- a refused token comes back
abbrev pub handed_back : InHand → Result (Unit {0}) Refusal → Result (Unit {0}) HandedBack
handed_back t (Ok u) = Ok u
handed_back t (Err e) = Err (record { frame = t; refusal = e })

-- what pass_on answers
abbrev pub pass_answer : InHand → ℕ → ℕ → Model → Result (Unit {0}) HandedBack
pass_answer t l d m = handed_back t (on_link m.links l d (refuses (not (in_hand t m)) NotInHand (Ok tt)))

-- the frame in hand at the place p waits last, and keeps its place
abbrev pub passed_as : ℕ → ℕ → ℕ → Option (List ℕ) → Model → Model
passed_as l d p None m = m
passed_as l d p (Some o) m = mk_model m.number m.links m.free (map.insert m.queues (l, d) (queue_in m.queues l d ++ queued p o ∷ [])) (map.remove m.hands p)

-- what pass_on leaves
abbrev pub pass_after : InHand → ℕ → ℕ → Model → Model
pass_after t l d m = cond (is_link l d m && in_hand t m) (passed_as l d t.place (hand_in m.hands t.place) m) m

-- what take_home and drop_frame answer
abbrev pub spend_answer : InHand → Model → Result (Unit {0}) HandedBack
spend_answer t m = handed_back t (refuses (not (in_hand t m)) NotInHand (Ok tt))

-- the place p is free
abbrev pub freed : ℕ → Model → Model
freed p m = mk_model m.number m.links (m.free + 1) m.queues (map.remove m.hands p)

-- what take_home and drop_frame leave
abbrev pub spend_after : InHand → Model → Model
spend_after t m = cond (in_hand t m) (freed t.place m) m

-- the octets at a place, if a frame is in hand there
abbrev pub handed : Option (List ℕ) → Result (List ℕ) Refusal
handed None = Err NotInHand
handed (Some o) = Ok o

-- what octets answers
abbrev pub octets_answer : InHand → Model → Result (List ℕ) Refusal
octets_answer t m = cond (t.store == m.number) (handed (hand_in m.hands t.place)) (Err NotInHand)

-- lent octets, as they are
abbrev pub shown : Result (Bor (List ℕ)) Refusal → Result (List ℕ) Refusal
shown (Ok r) = Ok r.now
shown (Err e) = Err e

-- how many wait in a queue
abbrev pub waiting_answer : ℕ → ℕ → Model → Result ℕ Refusal
waiting_answer l d m = on_link m.links l d (Ok (length (queue_in m.queues l d)))

-- the queues of n links, each weighed by w
abbrev pub over_queues : ℕ → (List Queued → ℕ) → (ℕ → ℕ → List Queued) → ℕ
over_queues n w q = sum_to n (λ l. w (q l 0) + w (q l 1))

-- how many wait in all queues
abbrev pub waiting_in : Model → ℕ
waiting_in m = over_queues m.links (λ hs. length hs) (queue_in m.queues)

-- a frame waits somewhere
abbrev pub any_waits : Model → Bool
any_waits m = nat_lt 0 (waiting_in m)
