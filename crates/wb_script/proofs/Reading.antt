-- A batch that is read from its script, arrival by arrival.
use Rattle.std.proofs.Common.{◌≡◌, ℕ, List, [], ◌∷◌, ◌++◌, true, false, refl, sym, ap, subst, ◌∙◌, arith, Option, Some, None, Result, Ok, Err, append-nil, append_assoc}
use Rattle.std.proofs.lemmas.Bool.{false≢true}
use Rattle.wb_names.specs.Values.{DrawopValue}
use Rattle.wb_lines.specs.Input.{InputLine}
use Rattle.wb_lines.specs.Moments.{LinesValue, Moment, Reads, IsBehind, TakesJoined, is_broken}
use Rattle.wb_lines.proofs.Moments.{Reads-none, Reads-then, Reads-prints}
use Rattle.wb_script.specs.declared.part.Part.{Part as ReadPart}
use Rattle.wb_script.specs.declared.part.Part.TheVariants as parts
use Rattle.wb_script.specs.declared.said.Said.{Said}
use Rattle.wb_script.specs.declared.taking.BatchFault.{BatchFault}
use Rattle.wb_feed.specs.declared.batch.Batch.{Batch}
use Rattle.wb_feed.specs.Batches.{counts_in}
use Rattle.wb_member.specs.Holding.{MemberValue}
use Rattle.wb_script.specs.Inside.Taking.{PrintsTaken, TakesAll, TakesFrom, TakesArrivals, TakesBatch}
use Rattle.wb_script.specs.Script.{Part, Arrival, Nothing, End, part_in}
use Rattle.wb_script.specs.Shows.{arrived_by, arrivals_of}
use Rattle.wb_script.specs.Inside.Parts.{IsPart, joins, joins_batch, by_batches}
use Rattle.wb_script.specs.Inside.Reading.{ReadsTo, listed, Gathers, ArrivesTo, BatchReading, ReadsOn, Gives}

-- ---- the arrivals of lines

pub arrivals_join : (js ks : List InputLine) → arrivals_of (js ++ ks) ≡ arrivals_of js ++ arrivals_of ks
arrivals_join [] ks = refl
arrivals_join (j ∷ js) ks = ap (λ (l : List DrawopValue). arrived_by (part_in j) ++ l) (arrivals_join js ks) ∙ sym (append_assoc (arrived_by (part_in j)) (arrivals_of js) (arrivals_of ks))

-- Lines that were skipped were read.
abbrev pub Skips : Moment Said → Moment Said → Type 0
Skips a b = (joined : List InputLine) × Reads by_batches a b [] joined × (arrivals_of joined ≡ [])

pub skips_none : (a : Moment Said) → Skips a a
skips_none a = ([], Reads-none by_batches a, refl)

-- and behind them a line
reads_one : (a b c : Moment Said) (line : InputLine) (ds : List DrawopValue) → Skips a b → Reads by_batches b c [] (line ∷ []) → arrived_by (part_in line) ≡ ds → (joined : List InputLine) × Reads by_batches a c [] joined × (arrivals_of joined ≡ ds)
reads_one a b c line ds p q is =
    (p.0 ++ line ∷ [], Reads-then by_batches a b c [] [] p.0 (line ∷ []) p.1 q, arrivals_join p.0 (line ∷ []) ∙ ap (λ (l : List DrawopValue). l ++ arrivals_of (line ∷ [])) p.2 ∙ append-nil (arrived_by (part_in line)) ∙ is)

pub skips_one : (a b c : Moment Said) (line : InputLine) → Skips a b → Reads by_batches b c [] (line ∷ []) → part_in line ≡ Nothing → Skips a c
skips_one a b c line p q is = reads_one a b c line [] p q (ap arrived_by is)

pub arrives_one : (a b c : Moment Said) (line : InputLine) (d : DrawopValue) → Skips a b → Reads by_batches b c [] (line ∷ []) → part_in line ≡ Arrival d → (joined : List InputLine) × Reads by_batches a c [] joined × (arrivals_of joined ≡ d ∷ [])
arrives_one a b c line d p q is = reads_one a b c line (d ∷ []) p q (ap arrived_by is)

-- and no more
pub skips_then : (a b c : Moment Said) → Skips a b → Reads by_batches b c [] [] → Skips a c
skips_then a b c p q = (p.0 ++ [], Reads-then by_batches a b c [] [] p.0 [] p.1 q, ap arrivals_of (append-nil p.0) ∙ p.2)

-- If no line joins, the batch is at its end.
pub none_joins : (says : InputLine → Said → Type 0) (a b : Moment Said) (result : Option Said) → ((said : Said) → result ≡ Some said → ⊥) → TakesJoined says by_batches a b result → Reads by_batches a b [] [] × IsBehind by_batches b.lines.line b.lines.seen
none_joins says a b (Some said) other t = absurd (other said refl)
none_joins says a b None other t = t

-- a text was printed behind them
pub printed_then : {a b c : Moment Said} (text : List ℕ) (joined : List InputLine) → Reads by_batches a b [] joined → c.lines ≡ b.lines → c.left ≡ b.left → c.failed ≡ b.failed → c.taken ≡ b.taken → c.stuck ≡ b.stuck → c.output ≡ b.output ++ text → Reads by_batches a c text joined
printed_then {a = a} {b = b} {c = c} text joined p lines left failed taken stuck prints =
    subst (Reads by_batches a c text) (append-nil joined) (Reads-then by_batches a b c [] text joined [] p (Reads-prints by_batches b c text lines left failed taken stuck prints))

-- ---- what a line is to a batch

pub joins_so : (r : ReadPart) (part : Part) → IsPart r part → joins r ≡ joins_batch part
joins_so parts.Skipped part is = sym (ap joins_batch is)
joins_so (parts.Arrival d) part is = sym (ap joins_batch is)
joins_so parts.Other (End c) is = refl
joins_so parts.Other (Arrival d) is = absurd is
joins_so parts.Other Nothing is = absurd is

-- It joins, and is no arrival.
pub skipped_so : (r : ReadPart) (part : Part) → IsPart r part → joins_batch part ≡ true → ((d : DrawopValue) → r ≡ parts.Arrival d → ⊥) → part ≡ Nothing
skipped_so parts.Skipped part is joined other = is
skipped_so (parts.Arrival d) part is joined other = absurd (other d refl)
skipped_so parts.Other (End c) is joined other = absurd (false≢true joined)
skipped_so parts.Other (Arrival d) is joined other = absurd is
skipped_so parts.Other Nothing is joined other = absurd is

-- ---- what the next arrival comes to

pub first_arrives : (m : Moment Said) (first first' : Option DrawopValue) (d : DrawopValue) → first ≡ Some d → first' ≡ None → ArrivesTo m first m first' (Some d)
first_arrives m first first' d is none = rw (is, none) (omega arith, ([], Reads-none by_batches m, refl))

pub next_arrives : (old new : Moment Said) (first first' result : Option DrawopValue) → first ≡ None → first' ≡ None → ReadsTo old new result → ArrivesTo old first new first' result
next_arrives old new first first' result none none' r = rw (none, none') (on result r) where
  on : (result : Option DrawopValue) → ReadsTo old new result → ArrivesTo old None new None result
  on (Some d) r = (omega (arith, r.0, r.1), (r.2.0, r.2.1, r.2.2))
  on None r = (omega (arith, r.0), refl, r.1, (r.2.0, r.2.1, r.2.2))

-- ---- what was read, from the start of a batch on

-- at its start
pub starts : (v : BatchReading) → v.over ≡ false → ReadsOn v [] v
starts v e = record { gathers = ([], Reads-none by_batches v.at, append-nil (listed v.first)); ended = λ over. absurd (false≢true (sym e ∙ over)) }

gathers_then : (a b c : Moment Said) (first first' first'' : Option DrawopValue) (ds es : List DrawopValue) → Gathers a first ds b first' → Gathers b first' es c first'' → Gathers a first (ds ++ es) c first''
gathers_then a b c first first' first'' ds es p q = (
  p.0 ++ q.0,
  Reads-then by_batches a b c [] [] p.0 q.0 p.1 q.1,
  ap (λ (l : List DrawopValue). listed first ++ l) (arrivals_join p.0 q.0) ∙ sym (append_assoc (listed first) (arrivals_of p.0) (arrivals_of q.0)) ∙ ap (λ (l : List DrawopValue). l ++ arrivals_of q.0) p.2
      ∙ append_assoc ds (listed first') (arrivals_of q.0) ∙ ap (λ (l : List DrawopValue). ds ++ l) q.2 ∙ sym (append_assoc ds es (listed first'')),
)

pub arrived_on : (old new : BatchReading) (d : DrawopValue) → new.over ≡ false → ArrivesTo old.at old.first new.at new.first (Some d) → Gives old (d ∷ []) new
arrived_on old new d goes arrives = λ start arrived p. record {
  gathers = gathers_then start.at old.at new.at start.first old.first new.first arrived (d ∷ []) p.gathers arrives.1;
  ended = λ over. absurd (false≢true (sym goes ∙ over));
}

pub ended_on : (old new : BatchReading) → ArrivesTo old.at old.first new.at new.first None → Gives old [] new
ended_on old new arrives = λ start arrived p. record {
  gathers = gathers_then start.at old.at new.at start.first old.first new.first arrived [] p.gathers arrives.3;
  ended = λ over. (arrives.1, arrives.2);
}

-- ---- all of a batch

-- the lines that joined it, and what arrived where no more come
pub gathered : (old new : BatchReading) (arrived : List DrawopValue) (d : DrawopValue) (r : ReadsOn old arrived new) → old.first ≡ Some d → new.over ≡ true → arrived ≡ d ∷ arrivals_of r.gathers.0
gathered old new arrived d r is over =
    sym (append-nil arrived) ∙ ap (λ (o : Option DrawopValue). arrived ++ listed o) (sym (r.ended over).0) ∙ sym r.gathers.2 ∙ ap (λ (o : Option DrawopValue). listed o ++ arrivals_of r.gathers.0) is

pub takes_arrivals : (member : MemberValue) (workers : ℕ) (old new : BatchReading) (first : DrawopValue) (arrived : List DrawopValue) (r : ReadsOn old arrived new) (result : Result (MemberValue × Batch) BatchFault) → old.first ≡ Some first → TakesFrom member workers arrived new.over result
    → TakesArrivals member workers first r.gathers.0 new.at.lines result
takes_arrivals member workers old new first arrived r (Ok p) is t = record {
  taken = subst (λ (l : List DrawopValue). TakesAll member workers l (counts_in p.1) p.0) (gathered old new arrived first r is t.1) t.0;
  behind = (r.ended t.1).1;
}
takes_arrivals member workers old new first arrived r (Err e) is t = tt

-- and its counts were printed, which changes nothing of the lines
pub takes_printed : (member : MemberValue) (workers : ℕ) (first : DrawopValue) (joined : List InputLine) (printed : List ℕ) (old new : LinesValue Said) (taken : Result (MemberValue × Batch) BatchFault) (result : Result MemberValue BatchFault)
    → new ≡ old → TakesArrivals member workers first joined old taken → PrintsTaken (is_broken old.seen) printed result taken → TakesBatch member workers first joined printed new result
takes_printed member workers first joined printed old new (Ok r) (Ok after) same t p =
    rw (same, p.0) (counts_in r.1, t, p.1)
takes_printed member workers first joined printed old new (Err e) (Ok after) same t p = absurd p
takes_printed member workers first joined printed old new taken (Err e) same t p = p
