-- Frames pushed stand in the first places.
use Rattle.std.proofs.Common.{◌≡◌, ℕ, ◌≤◌, List, [], ◌∷◌, length, refl, arith}
use Rattle.settings.specs.Setups.{Setup}
use Rattle.outbox.specs.declared.places.Place.{Place}
use Rattle.outbox.specs.declared.places.Outbox.{Outbox}
use Rattle.outbox.specs.Boxes.{Sent, pushed, pushed_all, laid, Laid}

abbrev holding : List Place → ℕ → Outbox
holding ps n = record { places = ps; count = n }

lay : (s : Setup) (fs : List Sent) (ps : List Place) → length fs ≤ 4 → pushed_all s fs (holding ps 0) ≡ holding (laid s fs ps) (length fs)
unfolding pushed
lay s [] [] h = refl
lay s [] (a ∷ []) h = refl
lay s [] (a ∷ b ∷ []) h = refl
lay s [] (a ∷ b ∷ c ∷ []) h = refl
lay s [] (a ∷ b ∷ c ∷ d ∷ ps) h = refl
lay s (f ∷ []) [] h = refl
lay s (f ∷ []) (a ∷ []) h = refl
lay s (f ∷ []) (a ∷ b ∷ []) h = refl
lay s (f ∷ []) (a ∷ b ∷ c ∷ []) h = refl
lay s (f ∷ []) (a ∷ b ∷ c ∷ d ∷ ps) h = refl
lay s (f ∷ g ∷ []) [] h = refl
lay s (f ∷ g ∷ []) (a ∷ []) h = refl
lay s (f ∷ g ∷ []) (a ∷ b ∷ []) h = refl
lay s (f ∷ g ∷ []) (a ∷ b ∷ c ∷ []) h = refl
lay s (f ∷ g ∷ []) (a ∷ b ∷ c ∷ d ∷ ps) h = refl
lay s (f ∷ g ∷ k ∷ []) [] h = refl
lay s (f ∷ g ∷ k ∷ []) (a ∷ []) h = refl
lay s (f ∷ g ∷ k ∷ []) (a ∷ b ∷ []) h = refl
lay s (f ∷ g ∷ k ∷ []) (a ∷ b ∷ c ∷ []) h = refl
lay s (f ∷ g ∷ k ∷ []) (a ∷ b ∷ c ∷ d ∷ ps) h = refl
lay s (f ∷ g ∷ k ∷ l ∷ []) [] h = refl
lay s (f ∷ g ∷ k ∷ l ∷ []) (a ∷ []) h = refl
lay s (f ∷ g ∷ k ∷ l ∷ []) (a ∷ b ∷ []) h = refl
lay s (f ∷ g ∷ k ∷ l ∷ []) (a ∷ b ∷ c ∷ []) h = refl
lay s (f ∷ g ∷ k ∷ l ∷ []) (a ∷ b ∷ c ∷ d ∷ ps) h = refl
lay s (f ∷ g ∷ k ∷ l ∷ x ∷ fs) ps h = absurd (omega arith)

pub lays : Laid
lays s fs o h = lay s fs o.places h
