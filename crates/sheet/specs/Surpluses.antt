-- The surpluses that were transferred, on a page: how many papers the candidate had received at each value, and the value at which they pass on.
use Rattle.std.specs.Prelude.{◌≡◌, ℕ, zero, suc, ◌+◌, ◌==◌, nat_lt, ◌⊎◌, if◌then◌else◌, List, [], ◌∷◌, ◌++◌, fold, insert, length, slice_get, slice_set, sum_by, codes, decimal, Option, Some, None}
use Rattle.std.specs.List.{flat_map, prefix_len}
use Rattle.votes.specs.Units.{cut}
use Rattle.votes.specs.Text.{votes_text}
use Rattle.count.specs.Advance.{AdvancesBy}
use Rattle.count.specs.Bundles.{Bundle, papers_of}
use Rattle.count.specs.Law.Contest.{Contest, History, contest_for, newest_votes}
use Rattle.count.specs.Law.Count.{stages_to}
use Rattle.count.specs.Law.Due.{next_action}
use Rattle.count.specs.Law.Places.{Place, place, surplus_of}
use Rattle.count.specs.declared.placed.Placed.{Placed}
use Rattle.count.specs.declared.stages.Action.{Action}
use Rattle.count.specs.declared.stages.Action.TheVariants.{First, Surplus, Exclude, ExcludeLast}
use Rattle.sheet.specs.Entries.{SheetEntry}
use Rattle.sheet.specs.Lines.{line, named}
use Rattle.sheet.specs.Names.{name_at, name_or_withdrawn}
use Rattle.sheet.specs.declared.surpluses.PassedOn.{PassedOn}

-- ---- the papers that pass on with a surplus

-- Transfer values: papers received at one value, which pass on with the surplus of c after the given stages, each at that value times the share of the surplus,
-- rounded down
abbrev pub passed_on : Contest → History → ℕ → ℕ → ℕ → PassedOn
passed_on contest before c papers received = record {
  stage = length before + 1;
  candidate = c;
  surplus = surplus_of contest before c;
  votes = newest_votes before c;
  papers = papers;
  received = received;
  passed = cut (surplus_of contest before c) received (newest_votes before c);
}

-- more papers that pass on with the same surplus, given the place for their value among those received at other values, and what is there: they are counted with those
-- of the same value
abbrev pub with_papers_at : List PassedOn → PassedOn → ℕ → Option PassedOn → List PassedOn
with_papers_at groups more k None = insert groups k more
with_papers_at groups more k (Some group) =
    if group.received == more.received then slice_set groups k (record group { papers = group.papers + more.papers }) else insert groups k more

-- the number of groups that were received at a higher value
abbrev pub count_above : List PassedOn → ℕ → ℕ
count_above groups value = prefix_len (λ g. nat_lt value g.received) groups

-- the same, with the highest value first
abbrev pub with_papers : List PassedOn → PassedOn → List PassedOn
with_papers groups more = with_papers_at groups more (count_above groups more.received) (slice_get groups (count_above groups more.received))

-- the same with the papers of a bundle, given their place, if c holds them
abbrev pub with_held : Contest → History → ℕ → ℕ → List PassedOn → Place → List PassedOn
with_held contest before c papers groups at = if at.holder == c then with_papers groups (passed_on contest before c papers at.value) else groups

-- Transfer of ballot papers: all papers of c pass on with the surplus, those without a next available preference too
abbrev pub all_held : Contest → History → List Bundle → ℕ → List PassedOn
all_held contest before bundles c = fold (λ groups b. with_held contest before c b.1 groups (place contest before b.0)) [] bundles

-- the candidate whose surplus an action transfers
abbrev pub surplus_by : Action → Option ℕ
surplus_by First = None
surplus_by (Surplus c) = Some c
surplus_by (Exclude c) = None
surplus_by (ExcludeLast c) = None

abbrev pub held_by : Contest → History → List Bundle → Option ℕ → List PassedOn
held_by contest before bundles None = []
held_by contest before bundles (Some c) = all_held contest before bundles c

-- the papers that pass on with a surplus, if the action after the given stages transfers one
abbrev pub passed_by : Contest → History → List Bundle → Option Action → List PassedOn
passed_by contest before bundles None = []
passed_by contest before bundles (Some action) = held_by contest before bundles (surplus_by action)

abbrev pub passed_next : Contest → List (ℕ × ℕ) → List Bundle → History → List PassedOn
passed_next contest lots bundles before = passed_by contest before bundles (next_action contest lots before)

-- the papers that pass on with a surplus at the first stages of a count, at most a given number of them
abbrev pub passed_to : Contest → List (ℕ × ℕ) → List Bundle → ℕ → List PassedOn
passed_to contest lots bundles zero = []
passed_to contest lots bundles (suc k) = passed_to contest lots bundles k ++ passed_next contest lots bundles (stages_to contest lots k)

-- the same for the count of the given bundles
abbrev pub surpluses_of : List ℕ → ℕ → List Bundle → List (ℕ × ℕ) → ℕ → List PassedOn
surpluses_of candidates seats bundles lots k = passed_to (contest_for candidates seats (papers_of bundles)) lots bundles k

-- ---- the text

abbrev pub received_words : ℕ → List ℕ
received_words papers = if papers == 1 then codes " paper received at " else codes " papers received at "

abbrev pub passed_words : ℕ → List ℕ
passed_words papers = if papers == 1 then codes " passes on at " else codes " pass on at "

-- `Stage 2, surplus of 1 Ann, 2.00000 of 6.00000 votes: 6 papers received at 1.00000 pass on at 0.33333.`
abbrev pub surplus_item : SheetEntry → PassedOn → List ℕ
surplus_item ward group = line (
    codes "<li>Stage " ∷ decimal group.stage ∷ codes ", surplus of " ∷ named group.candidate (name_or_withdrawn (name_at ward.candidates group.candidate)) ∷
    codes ", " ∷ votes_text group.surplus ∷ codes " of " ∷ votes_text group.votes ∷ codes " votes: " ∷ decimal group.papers ∷ received_words group.papers ∷
    votes_text group.received ∷ passed_words group.papers ∷ votes_text group.passed ∷ codes ".</li>" ∷ [])

-- the heading, and each value at which papers pass on
abbrev pub surpluses_text : SheetEntry → List PassedOn → List ℕ
surpluses_text ward groups =
    if length groups == 0 then line (codes "<h2>Surpluses</h2>\n<p>No surplus was transferred.</p>" ∷ [])
    else line (codes "<h2>Surpluses</h2>\n<ul>" ∷ []) ++ flat_map (surplus_item ward) groups ++ line (codes "</ul>" ∷ [])

-- ---- for private clauses

-- the number of papers in all
abbrev pub papers_in : List PassedOn → ℕ
papers_in groups = sum_by (λ g. g.papers) groups

-- the groups with the papers of a bundle, given their place before and after the transfer, if the candidate held them
abbrev pub with_placed : PassedOn → ℕ → List PassedOn → Placed → Placed → List PassedOn
with_placed of papers groups at to =
    if at.holder == of.candidate then with_papers groups (record of { papers = papers; received = at.value; passed = to.value }) else groups

-- the same with the papers of all bundles
abbrev pub all_placed : PassedOn → List PassedOn → List Placed → List Placed → List Bundle → List PassedOn
all_placed of groups before after [] = groups
all_placed of groups [] after (b ∷ bundles) = groups
all_placed of groups (at ∷ before) [] (b ∷ bundles) = groups
all_placed of groups (at ∷ before) (to ∷ after) (b ∷ bundles) = all_placed of (with_placed of b.1 groups at to) before after bundles

-- a surplus, before any papers are counted
abbrev pub of_surplus : Contest → History → ℕ → PassedOn
of_surplus contest before c =
    record { stage = length before + 1; candidate = c; surplus = surplus_of contest before c; votes = newest_votes before c; papers = 0; received = 0; passed = 0 }

-- the next stage is added if there is one
abbrev pub AdvancesIfDue : Contest → List (ℕ × ℕ) → History → History → Type 0
AdvancesIfDue contest lots old new = ((next_action contest lots old ≡ None) × (new ≡ old)) ⊎ AdvancesBy contest lots old new
