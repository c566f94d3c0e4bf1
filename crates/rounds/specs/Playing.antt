-- Rounds played on a copy: of each drone its place, the rounds that it has flown towards its next stop, and its link, by which the waits into that stop are gone through. A wait
-- that is met stays met, so that the link only moves on. Assumes nothing.
use Rattle.std.specs.Prelude.{◌≡◌, ◌≢◌, List, ℕ, suc, ◌+◌, ◌≤◌, ◌<◌, eqb, length}
use Rattle.below.specs.Below.{last_below, at}
use Rattle.tables.specs.Limits.{Limits}
use Rattle.precedence.specs.Graph.{Plan, Headway, free, fly_round}

-- the waits into the next stop v of drone d are gone through by their links: those from wait `link` on are met; `link` is one more than the next of them, 0 if there is none
pub record Scanning (P : Plan) (into : ℕ → ℕ) (p : ℕ → ℕ) (d v link : ℕ) : Type 0 where
  pub within : link ≤ P.count
  pub found : (j : ℕ) → link ≡ j + 1 → into j ≡ v
  pub met : (w : ℕ) → link ≤ w → w < P.count → (P.wait w).waiter ≡ d → (P.wait w).stop ≡ suc (p d) → (P.wait w).until ≤ p (P.wait w).awaited

-- from wait to wait into one stop
abbrev pub NextWaits : (into : ℕ → ℕ) (m : ℕ) (next : List ℕ) → Type 0
NextWaits into m next = (k : ℕ) → k < m → at next k ≡ last_below k (λ j. eqb (into j) (into k))

-- so of drone d, whose stops are those from `off d` on, while it is short of its last stop
abbrev pub ScannedAt : (P : Plan) (into off p : ℕ → ℕ) (d link : ℕ) → Type 0
ScannedAt P into off p d link = p d < P.last d → Scanning P into p d (off d + p d + 1) link

-- .. and it can go on exactly if no wait is left
pub record Looked (P : Plan) (into off p : ℕ → ℕ) (d link : ℕ) : Type 0 where
  pub scanned : ScannedAt P into off p d link
  pub goes : p d < P.last d → free P p d ≡ eqb link 0

-- drone d at its place x, with y rounds flown and the link z, comes to x', y' and z' by a round: it waits, flies, or comes to its next stop, where the waits into the one after it begin
pub record Moved (off last leg head : ℕ → ℕ) (d x y z x' y' z' : ℕ) : Type 0 where
  pub waits : (x < last d → z ≡ 0 → ⊥) → (x' ≡ x) × (y' ≡ y) × (z' ≡ z)
  pub flies : x < last d → z ≡ 0 → y + 1 < leg (off d + x + 1) → (x' ≡ x) × (y' ≡ y + 1) × (z' ≡ z)
  pub lands : x < last d → z ≡ 0 → leg (off d + x + 1) ≤ y + 1 → (x' ≡ x + 1) × (y' ≡ 0) × (x + 1 < last d → z' ≡ head (off d + x + 1 + 1))

-- two lists of places, two of rounds flown, two of links: those of the drones that pass `moved` are by a round apart, the others the same
pub record Stepped (off last leg head : ℕ → ℕ) (moved : ℕ → Type 0) (still : ℕ → Type 0) (places places' flown flown' links links' : List ℕ) : Type 0 where
  pub places_size : length places' ≡ length places
  pub flown_size : length flown' ≡ length flown
  pub links_size : length links' ≡ length links
  pub moves : (e : ℕ) → moved e → Moved off last leg head e (at places e) (at flown e) (at links e) (at places' e) (at flown' e) (at links' e)
  pub stays : (e : ℕ) → still e → (at places' e ≡ at places e) × (at flown' e ≡ at flown e) × (at links' e ≡ at links e)

-- drone d alone, and the first n drones
abbrev pub SteppedOne : (off last leg head : ℕ → ℕ) (d : ℕ) (places places' flown flown' links links' : List ℕ) → Type 0
SteppedOne off last leg head d = Stepped off last leg head (λ e. e ≡ d) (λ e. e ≢ d)

abbrev pub SteppedBelow : (off last leg head : ℕ → ℕ) (n : ℕ) (places places' flown flown' links links' : List ℕ) → Type 0
SteppedBelow off last leg head n = Stepped off last leg head (λ e. e < n) (λ e. n ≤ e)

-- the lists of the copy between rounds
pub record Aloft (L : Limits) (P : Plan) (into off : ℕ → ℕ) (places flown links : List ℕ) : Type 0 where
  pub places_size : length places ≡ L.drones
  pub flown_size : length flown ≡ L.drones
  pub links_size : length links ≡ L.drones
  pub scanned : (d : ℕ) → d < P.drones → ScannedAt P into off (at places) d (at links d)
  pub short : (d : ℕ) → d < P.drones → at places d < P.last d → at flown d ≤ L.leg

abbrev pub on_copy : (places flown : List ℕ) → Headway
on_copy places flown = record { place = at places; flown = at flown }

-- a round was played on it
pub record Flew (P : Plan) (leg : ℕ → ℕ → ℕ) (places flown places' flown' : List ℕ) : Type 0 where
  pub places_are : (d : ℕ) → d < P.drones → at places' d ≡ (fly_round P leg (on_copy places flown)).place d
  pub flown_are : (d : ℕ) → d < P.drones → at flown' d ≡ (fly_round P leg (on_copy places flown)).flown d
