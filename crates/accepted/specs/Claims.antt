-- What is claimed of an accepted reading, with a site text or without: when a text is accepted; that the tables hold the text's own plan, its form and the site's pairs; that they are left as every
-- list of calls asks for them, so that demand 3 holds of every text that is accepted; and that the text can be written out again. When a site text is refused. Assumes nothing.
use Rattle.std.specs.Prelude.{◌≡◌, ◌↔◌, true, List, [], ◌∷◌, ℕ, ◌*◌, ◌≤◌, ◌<◌, length, take}
use Rattle.below.specs.Below.{at, is_in}
use Rattle.tables.specs.Limits.{Limits, most_pairs}
use Rattle.tables.specs.Legs.{plain_leg}
use Rattle.tables.specs.Tables.{Tables, drones, form_of, full_size}
use Rattle.tables.specs.Zero.{zeroed_tables}
use Rattle.lines.specs.Names.{small_form}
use Rattle.near.specs.Near.{pair_count, meets_in}
use Rattle.site.specs.Site.{site_number, site_offset}
use Rattle.site.specs.Written.{site_text}
use Rattle.site.specs.Claims.{SitePairs}
use Rattle.site.specs.declared.SiteRefusal.{SiteRefusal}
use Rattle.text.specs.Written.{Route, routes_text, small_names, InLimits}
use Rattle.text.specs.Names.{names_small}
use Rattle.text.specs.TextWritten.{tables_text}
use Rattle.plan.specs.Visits.{same_location}
use Rattle.plan.specs.Field.{AcceptedPlan, PlansAgree, plan_of}
use Rattle.plan.specs.Claims.{StopsChecked, Collides, Never}
use Rattle.sound.specs.Sound.{sound}
use Rattle.call_log.specs.CallLog.{Call, Entry}
use Rattle.call_log.specs.Calls.{step, AsRead, tables_after, Ran}
use Rattle.call_log.specs.Demand.{Found}
use Rattle.reading.specs.Reading.{Site, without, given, site_read, with_reply, AnsweredAs, read_plan}
use Rattle.reading.specs.Replies.{ReadingReply, taken, refused_at, site_meant}
use Rattle.accepted.specs.TextPlan.{routes_plan, text_routes, pairs_on, text_plan, text_form}
use Rattle.std.specs.Prelude.{Err}

-- ---- when a text is accepted

-- these are the numbers of the site's pairs: none without a site text, or those of a text that is written as request 7 asks, "`site=1`, `pairs=N` (0 to 256), lines `near=A,B` with A below B, in strictly
-- rising order by A and then by B, then `end=site`"
abbrev pub SiteFollows : Limits → Site → List ℕ → Type 0
SiteFollows L without pairs = pairs ≡ []
SiteFollows L (given text) pairs = (n : ℕ) × SitePairs L n pairs × (text ≡ site_text n pairs)

-- what document 01 and requests 7 and 14 ask of a site text, if there is one, and a plan text, of the texts alone
pub record PlanFollows (L : Limits) (s : Site) (text : List ℕ) : Type 0 where
  pub pairs : List ℕ
  pub site : SiteFollows L s pairs
  -- "Plan text": the lines of a plan in this order, as the plan's form has them
  pub form : ℕ
  pub typed : List Route
  pub as_typed : text ≡ routes_text form typed
  -- with its names in small letters: a form that the board knows; names, numbers of stops, locations, times and legs in their ranges
  pub in_limits : InLimits L form (small_names typed)
  -- "text to 65,536 bytes"
  pub short : length text ≤ L.text
  -- "Stop 0 has time 0 and a drone's times strictly rise. Neighbouring stops of a drone have different locations." "Each time rises by at least LEG."
  pub stops : StopsChecked (routes_plan (meets_in pairs) (small_names typed))
  -- no two drones collide, as source document 004 has it (Definition 1), "when their locations are equal or near"
  pub apart : Never (routes_plan (meets_in pairs) (small_names typed)) (Collides (routes_plan (meets_in pairs) (small_names typed)))
  -- "dependencies to 4,096"
  pub few : (routes_plan (meets_in pairs) (small_names typed)).count ≤ L.dependencies

-- taken exactly when the texts follow the documents, into any tables of full size
abbrev pub TakenExactly : Limits → Type 0
TakenExactly L = (s : Site) (text : List ℕ) (t : Tables) → ((read_plan L s text t).reply ≡ taken) ↔ ((full_size L t ≡ true) × PlanFollows L s text)

-- ---- the plan of a text

-- after an accepted reading the tables hold the text's own plan
abbrev pub TablesHoldPlan : Limits → Type 0
TablesHoldPlan L = (s : Site) (text : List ℕ) (t : Tables) → (read_plan L s text t).reply ≡ taken → PlansAgree (text_plan L s text) (plan_of (read_plan L s text t).tables.plan)

-- "The tables hold the form": that of the text
abbrev pub TablesHoldForm : Limits → Type 0
TablesHoldForm L = (s : Site) (text : List ℕ) (t : Tables) → (read_plan L s text t).reply ≡ taken → form_of (read_plan L s text t).tables.plan ≡ text_form L text

-- "The site pairs are held in a further lent table": these numbers, and zeros after them
pub record HoldsPairs (numbers table : List ℕ) : Type 0 where
  pub many : 2 * pair_count table ≡ length numbers
  pub pairs : take (length numbers) table ≡ numbers
  pub zeros : (i : ℕ) → length numbers ≤ i → i < 2 * most_pairs → at table i ≡ 0

-- those of the site, after any list of calls
abbrev pub TablesHoldSite : Limits → Type 0
TablesHoldSite L = (s : Site) (text : List ℕ) (t : Tables) (calls : List Call) → (read_plan L s text t).reply ≡ taken → HoldsPairs (pairs_on L s) (tables_after (step L) (read_plan L s text t).tables calls).plan.pairs

-- "A `plan=1` text reads as legs of one, 0 at stop 0"
abbrev pub PlainLegs : Limits → Type 0
PlainLegs L =
    (s : Site) (text : List ℕ) (t : Tables) → (read_plan L s text t).reply ≡ taken → text_form L text ≡ 1
    → (d k : ℕ) → d < (text_plan L s text).drones → k ≤ (text_plan L s text).last d → (text_plan L s text).leg d k ≡ plain_leg k

-- that plan passes the plan check, and its dependencies are exactly those that its stops make, in order: "two visits .. make a dependency, when their locations are equal or near"
abbrev pub AcceptedText : Limits → Type 0
AcceptedText L = (s : Site) (text : List ℕ) (t : Tables) → (read_plan L s text t).reply ≡ taken → AcceptedPlan (text_plan L s text)

-- ---- the text written out again

-- the text of the plan in the tables, in the form that they hold
abbrev pub own_text : Limits → Tables → List ℕ
own_text L t = tables_text L (form_of t.plan) (drones t.plan) t.plan.names t.plan.stop_counts t.plan.locations t.plan.times t.plan.legs

-- the site text of the pairs in the tables
abbrev pub own_site : Tables → List ℕ
own_site t = site_text (pair_count t.plan.pairs) (take (2 * pair_count t.plan.pairs) t.plan.pairs)

-- "Writing out a taken plan therefore gives its text with the names in small letters", after any list of calls; so "a plan is written in the form it was read in"
abbrev pub WrittenBack : Limits → Type 0
WrittenBack L = (s : Site) (text : List ℕ) (t : Tables) (calls : List Call) → (read_plan L s text t).reply ≡ taken → own_text L (tables_after (step L) (read_plan L s text t).tables calls) ≡ small_form text

-- .. and the site text of the tables is the one that was given
abbrev pub SiteGivenBack : Limits → Type 0
SiteGivenBack L = (site text : List ℕ) (t : Tables) (calls : List Call) → (read_plan L (given site) text t).reply ≡ taken → own_site (tables_after (step L) (read_plan L (given site) text t).tables calls) ≡ site

-- "a capital is the same letter as its small form": a text and the same with its names in small letters get the same reply and leave the same tables
abbrev pub ReadAlike : Limits → Type 0
ReadAlike L = (s : Site) (text : List ℕ) (t : Tables) → read_plan L s (names_small text) t ≡ read_plan L s text t

-- ---- the tables afterwards

-- "After an accepted reading nobody is under way and nothing is turned": for any texts and whatever the tables held before, the plan stands in them with its
-- dependencies
abbrev pub ReadIsSound : Limits → Type 0
ReadIsSound L = (s : Site) (text : List ℕ) (t : Tables) → (read_plan L s text t).reply ≡ taken → AsRead L (read_plan L s text t).tables.plan (read_plan L s text t).tables

-- so they are sound: no call after it is refused by 40
abbrev pub TablesSound : Limits → Type 0
TablesSound L = (s : Site) (text : List ℕ) (t : Tables) → (read_plan L s text t).reply ≡ taken → sound L (read_plan L s text t).tables ≡ true

-- the tables' own site text and plan text, read into the tables z: taken, and their plan, form and pairs are those that the tables hold
pub record OwnTexts (L : Limits) (t z : Tables) : Type 0 where
  pub is_taken_lem : (read_plan L (given (own_site t)) (own_text L t) z).reply ≡ taken
  pub plan_again : PlansAgree (text_plan L (given (own_site t)) (own_text L t)) (plan_of t.plan)
  pub form_again : text_form L (own_text L t) ≡ form_of t.plan
  pub pairs_again : (i : ℕ) → i < 2 * most_pairs → at (read_plan L (given (own_site t)) (own_text L t) z).tables.plan.pairs i ≡ at t.plan.pairs i

-- "Tables are sound when: the plan in them would be accepted", and the pairs are "a list that a site text could give": the texts of sound tables are accepted, into any tables of full size
abbrev pub SoundMeansAccepted : Limits → Type 0
SoundMeansAccepted L =
    (t z : Tables) → full_size L t ≡ true → sound L t ≡ true → full_size L z ≡ true
    → OwnTexts L t z

-- demand 3: a reading of the texts into any tables replied r and left the tables t₁; where r is `taken`, any list of calls on these, known by their contracts alone, is as the log of the
-- texts' own plan has it: nothing of the tables goes into that log
abbrev pub Demand3OfTexts : Limits → Type 0
Demand3OfTexts L =
    (s : Site) (text : List ℕ) (t : Tables) (r : ReadingReply) (t₁ : Tables) (calls : List Call) (got : List Entry) (t' : Tables) → AnsweredAs (read_plan L s text t) r t₁ → r ≡ taken → Ran (step L) t₁ calls got t'
    → Found (text_plan L s text) calls got t'

-- ---- with a site text and without

-- "A plan read without a site text behaves as before"
pub record WithoutSite (L : Limits) : Type 0 where
  -- no pairs are left
  pub no_pairs_lem : (text : List ℕ) (t : Tables) → full_size L t ≡ true → length text ≤ L.text → (i : ℕ) → i < 2 * most_pairs → at (read_plan L without text t).tables.plan.pairs i ≡ 0
  -- two locations meet when they are the same, so that the plan is that of the plan text alone
  pub same_locations : (text : List ℕ) (a b : ℕ) → (text_plan L without text).meets a b ≡ same_location a b
  pub same_plan : (text : List ℕ) → text_plan L without text ≡ routes_plan same_location (text_routes L text)
  -- a site text of no pairs makes no difference: every reply and every table is the same
  pub as_of_no_pairs : (text : List ℕ) (t : Tables) → read_plan L (given (site_text 0 [])) text t ≡ read_plan L without text t

-- a line of the site text is refused with this number at this offset
pub record SiteAtFault (L : Limits) (s : Site) (n o : ℕ) : Type 0 where
  pub refusal : SiteRefusal
  pub said : (site_read L s).answer ≡ Err refusal
  pub number : site_number refusal ≡ n
  pub offset : site_offset refusal ≡ o

-- "Refused, line by line, after 41 and before the plan's 1: 13 ..; 14 ..; both carry offsets as 2 and 4 do and zero every table": exactly where a line of the site text is refused, whatever the plan text
pub record SiteRefusedExactly (L : Limits) : Type 0 where
  pub exactly : (s : Site) (text : List ℕ) (t : Tables) (n o : ℕ) → is_in n (13 ∷ 14 ∷ []) ≡ true → ((read_plan L s text t).reply ≡ refused_at n o) ↔ ((full_size L t ≡ true) × SiteAtFault L s n o)
  pub zeroed : (s : Site) (text : List ℕ) (t : Tables) (r : SiteRefusal) → full_size L t ≡ true → (site_read L s).answer ≡ Err r → read_plan L s text t ≡ with_reply (site_meant r) (zeroed_tables L t)
  -- "an empty site text is refused by 13"
  pub empty : (text : List ℕ) (t : Tables) → full_size L t ≡ true → read_plan L (given []) text t ≡ with_reply (refused_at 13 0) (zeroed_tables L t)
