-- The frames that wait on the links, and the three counts of the call so far.
use Rattle.std.specs.Prelude.{ℕ, ◌+◌, Bool, true, false, cond, ◌&&◌, List, [], ◌∷◌, ◌++◌, nat_lt}
use Rattle.layout.specs.Elements.{Element, test, topology_change, link_down, link_up, common, end, none}
use Rattle.layout.specs.Reading.{Reading, refused, accepted, reading}
use Rattle.switch.specs.declared.port.Port.{Port}
use Rattle.switch.specs.declared.port.Port.TheVariants.{One, Two}
use Rattle.rings.specs.Places.{change, sum_to, link_at}

-- a frame that waits
pub record Frame : Type 0 where
  pub octets : List ℕ

abbrev pub begins : Element → Bool
begins (test p s r t n c) = true
begins (topology_change p s i) = false
begins (link_down s r i b) = false
begins (link_up s r i b) = false
begins (common n d) = false
begins end = false
begins none = false

abbrev pub test_read : Reading → Bool
test_read (refused n) = false
test_read (accepted s e n d) = begins e

-- whether octets read as a Test
unfoldable pub is_test : List ℕ → Bool
is_test xs = test_read (reading xs)

-- what a frame counts as a test frame, and as any frame
abbrev pub tests : Frame → ℕ
tests f = cond (is_test f.octets) 1 0

abbrev pub any : Frame → ℕ
any f = 1

abbrev pub weigh : (Frame → ℕ) → List Frame → ℕ
weigh w [] = 0
weigh w (f ∷ fs) = w f + weigh w fs

-- the queue of each link and direction, by the port that its frames left by: Two is direction 0, One is direction 1
abbrev pub Queues : Type 0
Queues = Port → ℕ → List Frame

abbrev pub requeue : Port → ℕ → List Frame → Queues → Queues
requeue One i fs q One = change i fs (q One)
requeue One i fs q Two = q Two
requeue Two i fs q One = q One
requeue Two i fs q Two = change i fs (q Two)

-- what waits on n links, by weight
abbrev pub held : ℕ → (Frame → ℕ) → Queues → ℕ
held n w q = sum_to n (λ i. weigh w (q One i) + weigh w (q Two i))

-- the queues, and how many test frames were sent, arrived and were lost in the call so far
pub record Traffic : Type 0 where
  pub queues : Queues
  pub sent : ℕ
  pub arrived : ℕ
  pub lost : ℕ

abbrev pub traffic : Queues → ℕ → ℕ → ℕ → Traffic
traffic q s a l = record { queues = q; sent = s; arrived = a; lost = l }

-- a frame joins a queue, is dropped, is taken home, is newly sent
abbrev pub join : Port → ℕ → Frame → Traffic → Traffic
join p i f t = traffic (requeue p i (t.queues p i ++ (f ∷ [])) t.queues) t.sent t.arrived t.lost

abbrev pub drop : Frame → Traffic → Traffic
drop f t = traffic t.queues t.sent t.arrived (t.lost + tests f)

abbrev pub home : Frame → Traffic → Traffic
home f t = traffic t.queues t.sent (t.arrived + tests f) t.lost

abbrev pub born : Frame → Traffic → Traffic
born f t = traffic t.queues (t.sent + tests f) t.arrived t.lost

-- the first frame of a queue is taken off it
abbrev pub rest : {A : Type 0} → List A → List A
rest [] = []
rest (x ∷ xs) = xs

abbrev pub uncork : Port → ℕ → Traffic → Traffic
uncork p i t = traffic (requeue p i (rest (t.queues p i)) t.queues) t.sent t.arrived t.lost

-- all that waits in a queue is lost
abbrev pub purge : Port → ℕ → Traffic → Traffic
purge p i t = traffic (requeue p i [] t.queues) t.sent t.arrived (t.lost + weigh tests (t.queues p i))

-- a frame that is passed on by port p over link i is lost only where the link is down
abbrev pub pass_on : (ℕ → Bool) → Port → ℕ → Frame → Traffic → Traffic
pass_on l p i f t = cond (l i) (join p i f t) (drop f t)

-- what a node sends: a frame at a port
pub record Out : Type 0 where
  pub port : Port
  pub frame : Frame

module _ (n : ℕ) where
  -- a new frame is lost where the link is down, or where 128 frames wait
  abbrev pub send : (ℕ → Bool) → Port → ℕ → Frame → Traffic → Traffic
  send l p i f t = cond (l i && nat_lt (held n any t.queues) 128) (join p i f (born f t)) (drop f (born f t))

  -- node k sends frames, in their order
  abbrev pub emit : (ℕ → Bool) → ℕ → List Out → Traffic → Traffic
  emit l k [] t = t
  emit l k (o ∷ os) t = emit l k os (send l o.port (link_at n k o.port) o.frame t)
