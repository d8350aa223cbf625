-- An announcement of a topology change by itself: its timer runs out again and again, and nothing else happens.
use Rattle.std.specs.Prelude.{◌≡◌, ℕ, zero, suc, ◌+◌, ◌-◌, ◌*◌, ◌%◌, true, false, List, [], ◌∷◌, ◌++◌, Some, None}
use Rattle.switch.specs.declared.port.Port.TheVariants.{One, Two}
use Rattle.switch.specs.Meanings.{Meaning}
use Rattle.switch.specs.Calls.{cleared}
use Rattle.settings.specs.Setups.{Setup}
use Rattle.event.specs.Events.{turns, expires}
use Rattle.outbox.specs.declared.message.Message.{Message}
use Rattle.outbox.specs.declared.message.Message.TheVariants.{Test, TopologyChange, LinkDown, LinkUp}
use Rattle.outbox.specs.Boxes.{Sent}
use Rattle.outbox.specs.Rows.{◌▷◌, opened}
use Rattle.manager.specs.Machines.{Machine, started, with_repeats, with_topology}
use Rattle.manager.specs.Rows.{Row, acts, pair}

-- the topology timer, number 1, runs out k times; what is sent adds up
abbrev pub counting : ℕ → ℕ → Row → Row
counting stamp zero r = r
counting stamp (suc k) r = counting stamp k (acts stamp (expires 1) r)

-- with k repeats left and t to an interval: k × t at both ports, and so on down to 0, n being the sequence number
abbrev pub countdown : ℕ → ℕ → ℕ → List Sent
countdown zero t n = pair (TopologyChange 0) (TopologyChange 0) n
countdown (suc k) t n = pair (TopologyChange (suc k * t)) (TopologyChange (suc k * t)) n ++ countdown k t ((n + 1) % 65536)

pub record CountedDown (k : ℕ) (m : Machine) (w : Meaning) (fs : List Sent) (r : Row) : Type 0 where
  pub sends : r.sent ≡ fs ++ countdown k m.setup.topology m.sequence
  pub clears : r.switch ≡ cleared w
  pub stops : r.machine.topology_timer ≡ None
  pub again : r.machine.repeats ≡ m.setup.topology_count - 1

-- with k repeats left, k + 1 run-outs count down to 0, and the last clears the pairs
abbrev pub Countdown : Type 0
Countdown = (stamp k x : ℕ) (m : Machine) (w : Meaning) (fs : List Sent) → CountedDown k m w fs (counting stamp (suc k) (record { machine = with_repeats k (with_topology (Some x) m); switch = w; sent = fs }))

-- the intervals told, in order
abbrev pub interval : Message → List ℕ → List ℕ
interval (Test r c n t) is = is
interval (TopologyChange i) is = i ∷ is
interval (LinkDown i) is = is
interval (LinkUp i) is = is

abbrev pub intervals : List Sent → List ℕ
intervals [] = []
intervals (f ∷ fs) = interval f.message (intervals fs)

-- count 3 at 10 ms
abbrev pub three : Setup
three = record { short_test = 1; default_test = 1; topology = 10; link_up = 1; link_down = 1; test_count = 2; topology_count = 3; link_count = 1; priority = 0; domain = []; address = [] }

-- both links come up and the first goes down, which is announced; then the topology timer runs out k times
abbrev pub announced : ℕ → Meaning → Row
announced k w = opened (started three) w ▷ acts 0 (turns One true) ▷ acts 0 (turns Two true) ▷ acts 0 (turns One false) ▷ counting 0 k

-- announced are 30, 20, 10 and 0, each at both ports; until the last one the pairs stay, and the last clears them
abbrev pub WorkedAnnouncement : Type 0
WorkedAnnouncement = (w : Meaning) → (intervals (announced 3 w).sent ≡ 30 ∷ 30 ∷ 20 ∷ 20 ∷ 10 ∷ 10 ∷ 0 ∷ 0 ∷ [])
    × ((announced 2 w).switch.known ≡ w.known) × ((announced 3 w).switch ≡ cleared (announced 2 w).switch) × ((announced 3 w).machine.topology_timer ≡ None)
