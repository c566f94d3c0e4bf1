-- Reading a plan, with a site text or without: the reply, and every lent table afterwards, for any texts and any tables (document 01, "Where each refusal is checked": every entry, reading, plan
-- check, building; request 7). Assumes nothing.
use Rattle.std.specs.Prelude.{◌≡◌, cond, List, [], ◌∷◌, ℕ, ltb, leb, length, ⊤, Option, Some, None, Result, Ok, Err}
use Rattle.std.specs.Borrow.{Bor}
use Rattle.std.proofs.lemmas.List.Edits.{sets}
use Rattle.below.specs.Below.{laid}
use Rattle.tables.specs.Limits.{Limits}
use Rattle.tables.specs.Tables.{PlanLists, Tables, full_size}
use Rattle.tables.specs.Zero.{zeroed_tables}
use Rattle.text.specs.LinesRead.{LinesRead, lines_at, flat}
use Rattle.lines.specs.declared.refusal.Refusal.{Refusal as LineRefusal}
use Rattle.site.specs.Site.{PairList, site_at}
use Rattle.site.specs.declared.SiteRefusal.{SiteRefusal}
use Rattle.plan.specs.Dependencies.{flag_of}
use Rattle.plan.specs.Answers.{check_of}
use Rattle.plan.specs.Claims.{stop_total, owner_in, number_in, leg_in, visits_in, planned_total, planned_list}
use Rattle.reading.specs.Replies.{ReadingReply, taken, refused_by, refused_at, is_taken, line_meant, site_meant, check_meant}

-- what a reading is given besides the plan text: no site text, or one
pub data Site : Type 0 where
  without : Site
  given : List ℕ → Site

-- what an entry that takes a site text or none is given
abbrev pub site_of : Option (Bor (List ℕ)) → Site
site_of None = without
site_of (Some text) = given text.now

-- the numbers of its pairs, and what is said of it: "A plan read without a site text behaves as before"
abbrev pub site_read : Limits → Site → PairList (Result ⊤ SiteRefusal)
site_read L without = record { numbers = []; answer = Ok tt }
site_read L (given text) = site_at L text

-- the reply and the tables afterwards
pub record ReadingAnswer : Type 0 where
  pub reply : ReadingReply
  pub tables : Tables

abbrev pub with_reply : ReadingReply → Tables → ReadingAnswer
with_reply r t = record { reply = r; tables = t }

-- a reply and the tables that are left are those of an answer
pub record AnsweredAs (a : ReadingAnswer) (r : ReadingReply) (t : Tables) : Type 0 where
  pub replied : r ≡ a.reply
  pub left : t ≡ a.tables

-- zeroed tables with the numbers of the site's pairs, so "unused entries are zero"
abbrev pub with_site : List ℕ → Tables → Tables
with_site numbers t = record {
  plan = record {
    drone_count = t.plan.drone_count;
    dependency_count = t.plan.dependency_count;
    form = t.plan.form;
    names = t.plan.names;
    stop_counts = t.plan.stop_counts;
    locations = t.plan.locations;
    times = t.plan.times;
    legs = t.plan.legs;
    first_drones = t.plan.first_drones;
    first_stops = t.plan.first_stops;
    second_drones = t.plan.second_drones;
    second_stops = t.plan.second_stops;
    pairs = sets t.plan.pairs 0 numbers;
  };
  visited = t.visited;
  drone_flags = t.drone_flags;
  flags = t.flags;
}

-- .. and with the values of a plan text that has n drones
abbrev pub with_text : LinesRead (Result ℕ LineRefusal) → ℕ → Tables → Tables
with_text f n t = record {
  plan = record {
    drone_count = sets t.plan.drone_count 0 (n ∷ []);
    dependency_count = t.plan.dependency_count;
    form = sets t.plan.form 0 (f.form ∷ []);
    names = sets t.plan.names 0 (flat f.rows);
    stop_counts = sets t.plan.stop_counts 0 f.counts;
    locations = sets t.plan.locations 0 f.locations;
    times = sets t.plan.times 0 f.times;
    legs = sets t.plan.legs 0 f.legs;
    first_drones = t.plan.first_drones;
    first_stops = t.plan.first_stops;
    second_drones = t.plan.second_drones;
    second_stops = t.plan.second_stops;
    pairs = t.plan.pairs;
  };
  visited = t.visited;
  drone_flags = t.drone_flags;
  flags = t.flags;
}

-- the tables with the dependencies of their plan, each with its fixed bit and none turned
abbrev pub with_dependencies : Tables → Tables
with_dependencies t = record {
  plan = record {
    drone_count = t.plan.drone_count;
    dependency_count = sets t.plan.dependency_count 0 (planned_total t.plan ∷ []);
    form = t.plan.form;
    names = t.plan.names;
    stop_counts = t.plan.stop_counts;
    locations = t.plan.locations;
    times = t.plan.times;
    legs = t.plan.legs;
    first_drones = laid t.plan.first_drones 0 (planned_list t.plan (λ v w. owner_in t.plan v));
    first_stops = laid t.plan.first_stops 0 (planned_list t.plan (λ v w. number_in t.plan v));
    second_drones = laid t.plan.second_drones 0 (planned_list t.plan (λ v w. owner_in t.plan w));
    second_stops = laid t.plan.second_stops 0 (planned_list t.plan (λ v w. number_in t.plan w));
    pairs = t.plan.pairs;
  };
  visited = t.visited;
  drone_flags = t.drone_flags;
  flags = laid t.flags 0 (planned_list t.plan (flag_of (owner_in t.plan) (number_in t.plan) (stop_total t.plan)));
}

-- what the plan check says of the plan in the lists
abbrev pub check_in : PlanLists → ReadingReply
check_in p = check_meant (check_of (visits_in p) (leg_in p))

module _ (L : Limits) where
  -- "building: 11 too many dependencies: zeroed": z is the zeroed tables, t the tables with the text's values
  abbrev pub built : Tables → Tables → ReadingAnswer
  built z t = cond (leb (planned_total t.plan) L.dependencies) (with_reply taken (with_dependencies t)) (with_reply (refused_by 11) z)

  -- "plan check: zeroed"
  abbrev pub after_check : Tables → Tables → ReadingReply → ReadingAnswer
  after_check z t r = cond (is_taken r) (built z t) (with_reply r z)

  -- plan check and building on tables with the text's values, which a refusal leaves as they were
  unfoldable pub stored : Tables → ReadingAnswer
  stored t = after_check t t (check_in t.plan)

  -- "reading, line by line: full sizes zeroed", the pairs with the rest
  abbrev pub from_lines : Tables → LinesRead (Result ℕ LineRefusal) → Result ℕ LineRefusal → ReadingAnswer
  from_lines z f (Err r) = with_reply (line_meant r) (zeroed_tables L z)
  from_lines z f (Ok n) = after_check (zeroed_tables L z) (with_text f n z) (check_in (with_text f n z).plan)

  -- reading a text that is not too long into tables that are zeroed but for the pairs
  unfoldable pub read_lines : List ℕ → Tables → ReadingAnswer
  read_lines text z = from_lines z (lines_at L text) (lines_at L text).answer

  -- "Refused, line by line, after 41 and before the plan's 1: 13 .. 14 .. both carry offsets as 2 and 4 do and zero every table"; "reading, before any line: 1 text too long: unchanged",
  -- "Refusals 1 to 6 carry a byte offset", "1 now carries 65,536"
  abbrev pub after_site : List ℕ → List ℕ → Tables → Result ⊤ SiteRefusal → ReadingAnswer
  after_site numbers text t (Err r) = with_reply (site_meant r) (zeroed_tables L t)
  after_site numbers text t (Ok _) = cond (ltb L.text (length text)) (with_reply (refused_at 1 L.text) t) (read_lines text (with_site numbers (zeroed_tables L t)))

  -- "every entry, first: 41 a lent table is below full size: unchanged"
  unfoldable pub read_plan : Site → List ℕ → Tables → ReadingAnswer
  read_plan s text t = cond (full_size L t) (after_site (site_read L s).numbers text t (site_read L s).answer) (with_reply (refused_by 41) t)
