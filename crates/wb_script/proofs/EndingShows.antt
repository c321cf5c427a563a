-- What a script shows at its end is the canvas of all its arrivals.
use Rattle.std.proofs.Common.{◌≡◌, ℕ, ◌+◌, Bool, true, false, List, [], ◌∷◌, ◌++◌, Result, Ok, refl, sym, ap, ◌∙◌, subst, append_assoc, Option, Some, None, IsPermutation, unwrap_or, append-nil}
use Rattle.std.specs.Str.Lines.{strip_carriage_return}
use Rattle.wb_names.specs.Values.{DrawopValue}
use Rattle.wb_names.specs.Arrivals.{history_after}
use Rattle.wb_names.specs.declared.name.PageId.{PageId}
use Rattle.wb_display.specs.Canvas.{canvas_text}
use Rattle.wb_display.proofs.Convergence.{converges}
use Rattle.wb_commands.specs.declared.fault.LineFault.{LineFault}
use Rattle.wb_commands.specs.declared.fault.LineFault.TheVariants as faults
use Rattle.wb_script.specs.declared.fault.RunFault.{RunFault}
use Rattle.wb_script.specs.declared.fault.RunFault.TheVariants as run_faults
use Rattle.wb_commands.specs.declared.command.Command.{Command}
use Rattle.wb_commands.specs.declared.command.Command.TheVariants.{Call, Question}
use Rattle.wb_member.specs.Questions.{answer_to}
use Rattle.wb_member.specs.declared.questions.Query.TheVariants.{Canvas}
use Rattle.wb_commands.specs.Answers.{answer_text}
use Rattle.wb_script.specs.declared.running.Summary.{Summary}
use Rattle.wb_commands.specs.SentLines.{call_text}
use Rattle.wb_member.specs.Board.{Held}
use Rattle.wb_member.specs.Calls.{after_call, fault_of}
use Rattle.wb_member.specs.Opened.{Opened, board_of}
use Rattle.wb_script.specs.Hosts.{script_host, taken, batch_text}
use Rattle.wb_commands.specs.Acts.{Act, does, fails, tells, act}
use Rattle.wb_member.specs.Holding.{board_after}
use Rattle.wb_script.specs.Laws.{NoneClash, HasCells}
use Rattle.wb_commands.specs.Parsing.{script_line_of}
use Rattle.wb_member.specs.Queries.{view_of}
use Rattle.wb_lines.specs.Input.{InputLine, input_lines, content}
use Rattle.wb_script.specs.Script.{RunState, run_start, after_batch, Closing, Opens, Acts, Part, Arrival, Nothing, End, part_of, part_in, RunStep, moves_on, refused, step_by, part_step, step_of, RunOutcome, prints, printed_before, run_answer, follow_step, run_outcome_from}
use Rattle.wb_script.specs.ScriptLaws.{EachEnds}
use Rattle.wb_script.specs.Shows.{arrived_by, arrivals_of, cells_by, cells_of, EndsWith, canvas_after, ShowsArrivals, ShowsAreFree}
use Rattle.wb_script.proofs.FreeArrivals.{batches_are_one, free_on}
use Rattle.wb_lines.proofs.InputLines.{input_lines-whole, whole_line}
use Rattle.wb_script.proofs.Outcomes.{before-nil, before-before, too_many, text_of, end_of}
use Rattle.wb_member.proofs.KeptBoards.{calls_keep_boards}
use Rattle.wb_member.proofs.Queries.{view_of_page}
use Rattle.wb_script.proofs.Refusals.{unless_both}
use Rattle.wb_script.proofs.ReorderedLines.{state}
use Rattle.wb_script.proofs.ScriptLaws.{state_of, one_line, split, fit, err_end}

-- what was held when the batch began, with what waits since, is what all arrivals lead to
abbrev Leads : Option Opened → List DrawopValue → List DrawopValue → Type 0
Leads None waiting ds = ds ≡ []
Leads (Some host) waiting ds = history_after host.is.cells host.is.held waiting ≡ history_after host.is.cells [] ds

-- the cells of the board, or of the one that the lines open
abbrev cells_at : Option Opened → ℕ → ℕ
cells_at None later = later
cells_at (Some host) later = host.is.cells

-- what a step that is taken leaves
record Kept (host : Option Opened) (ds : List DrawopValue) (part : Part) (t : RunState) : Type 0 where
  leads : Leads t.host t.waiting (ds ++ arrived_by part)
  cells : (later : ℕ) → cells_at t.host later ≡ cells_at host (cells_by part later)

kept_by : (host : Option Opened) (ds : List DrawopValue) (part : Part) (u t : RunState) (x y : List ℕ) → Kept host ds part u → moves_on u x ≡ moves_on t y → Kept host ds part t
kept_by host ds part u t x y k e = subst (Kept host ds part) (state_of u t x y e) k

leads_on : (host : Option Opened) (waiting ds : List DrawopValue) → Leads host waiting ds → Leads host waiting (ds ++ [])
leads_on host waiting ds h = subst (Leads host waiting) (sym (append-nil ds)) h

-- no line changes the board of a host whose batch has ended
same_host : (host next : Opened) (text printed : List ℕ) → does host text ≡ does next printed → host ≡ next
same_host host next text printed e = cc

pub act_board : (line : Command) (host next : Opened) (printed : List ℕ) → act line host ≡ does next printed → board_of next ≡ board_of host
act_board (Call call) host next printed e =
    let called : Act = does (after_call call host) (call_text call host) in
    unless_both (λ (a b : Act). a ≡ does next printed → board_of next ≡ board_of host) (λ fault f. absurd cc) (fault_of call host) called called
    (λ f. ap board_of (sym (same_host (after_call call host) next (call_text call host) printed f)) ∙ (calls_keep_boards call host).board) e
act_board (Question query) host next printed e = at (answer_text (answer_to query host)) e where
  at : (text : Option (List ℕ)) → tells host text ≡ does next printed → board_of next ≡ board_of host
  at (Some text) f = ap board_of (sym (same_host host next text printed f))
  at None f = absurd cc
act_board line host next printed e = ap board_of (sym (same_host host next _ printed e))

-- the same board, once a batch was taken
act_kept : (k : Option ℕ) (first host : Opened) (waiting ds : List DrawopValue) (line : Command) (text : List ℕ) (t : RunState) (y : List ℕ) → Leads (Some first) waiting ds → board_of host ≡ board_after (board_of first) waiting
    → (a : Act) → act line host ≡ a → step_by k text a host ≡ moves_on t y → Kept (Some first) ds (End (Acts line)) t
act_kept k first host waiting ds line text t y h is (fails f) acted e = absurd cc
act_kept k first host waiting ds line text t y h is (does next printed) acted e =
    let board : board_of next ≡ board_after (board_of first) waiting = act_board line host next printed acted ∙ is in
    let after : history_after first.is.cells first.is.held waiting ≡ history_after first.is.cells [] (ds ++ []) = h ∙ ap (history_after first.is.cells []) (sym (append-nil ds)) in
    kept_by (Some first) ds (End (Acts line)) (state k (Some next) []) t (text ++ printed) y
    (record {
      leads = subst (λ (b : Held). b.drawops ≡ history_after b.cells [] (ds ++ [])) (sym board) after;
      cells = λ later. ap (λ (b : Held). b.cells) board;
    }) e

-- by the host
closes_kept : (k : Option ℕ) (host : Option Opened) (waiting ds : List DrawopValue) (c : Closing) (t : RunState) (y : List ℕ) → Leads host waiting ds → part_step (state k host waiting) waiting (End c) ≡ moves_on t y → Kept host ds (End c) t
closes_kept k None waiting ds (Opens member cells workers seed) t y h e =
    kept_by None ds (End (Opens member cells workers seed)) (state (Some (unwrap_or k workers)) (Some (script_host member cells seed)) []) t [] y
    (record { leads = ap (history_after cells []) (sym (ap (λ (l : List DrawopValue). l ++ []) h)); cells = λ later. refl }) e
closes_kept k (Some host) waiting ds (Acts line) t y h e =
    act_kept k host (taken waiting host) waiting ds line (batch_text (board_of host) waiting) t y h refl (act line (taken waiting host)) refl e
closes_kept k host waiting ds c t y h e = absurd cc

arrives_kept : (k : Option ℕ) (host : Option Opened) (waiting ds : List DrawopValue) (d : DrawopValue) (t : RunState) (y : List ℕ) → Leads host waiting ds → part_step (state k host waiting) waiting (Arrival d) ≡ moves_on t y → Kept host ds (Arrival d) t
arrives_kept k None waiting ds d t y h e = absurd cc
arrives_kept k (Some host) waiting ds d t y h e =
    let b : Held = board_of host in
    kept_by (Some host) ds (Arrival d) (state k (Some host) (waiting ++ d ∷ [])) t [] y
    (record {
      leads = batches_are_one b.cells b.drawops waiting (d ∷ []) ∙ ap (λ (l : List DrawopValue). history_after b.cells l (d ∷ [])) h ∙ sym (batches_are_one b.cells [] ds (d ∷ []));
      cells = λ later. refl;
    }) e

step_kept : (k : Option ℕ) (host : Option Opened) (waiting ds : List DrawopValue) (part : Part) (t : RunState) (y : List ℕ) → Leads host waiting ds → part_step (state k host waiting) waiting part ≡ moves_on t y → Kept host ds part t
step_kept k host waiting ds Nothing t y h e = kept_by host ds Nothing (state k host waiting) t [] y (record { leads = leads_on host waiting ds h; cells = λ later. refl }) e
step_kept k host waiting ds (Arrival d) t y h e = arrives_kept k host waiting ds d t y h e
step_kept k host waiting ds (End c) t y h e = closes_kept k host waiting ds c t y h e

-- ---- whole lines that are run through

record RunsTo (n : ℕ) (s : RunState) (ds : List DrawopValue) (lines more : List InputLine) : Type 0 where
  done : ℕ
  last : RunState
  written : List ℕ
  on : run_outcome_from false n s (lines ++ more) ≡ printed_before written (run_outcome_from false done last more)
  leads : Leads last.host last.waiting (ds ++ arrivals_of lines)
  cells : cells_at last.host 0 ≡ cells_at s.host (cells_of lines)

-- an outcome behind a text
record Behind (y text : List ℕ) (sum : Summary) (o : RunOutcome) : Type 0 where
  later : List ℕ
  is : o ≡ prints later (Ok sum)
  whole : text ≡ y ++ later

behind : (y text : List ℕ) (sum : Summary) (o : RunOutcome) → printed_before y o ≡ prints text (Ok sum) → Behind y text sum o
behind y text sum (prints u end) e = record { later = u; is = ap (λ (f : Result Summary RunFault). prints u f) (end_of (y ++ u) text end (Ok sum) e); whole = sym (text_of (y ++ u) text end (Ok sum) e) }

runs_on : (n : ℕ) (s : RunState) (ds : List DrawopValue) (line : InputLine) (lines more : List InputLine) (text : List ℕ) (sum : Summary) (fits : Bool) (step : RunStep) → line.ended ≡ true → fit n line ≡ fits → step_of s s.waiting (content line) ≡ step
    → Leads s.host s.waiting ds → run_outcome_from false n s (line ∷ (lines ++ more)) ≡ prints text (Ok sum)
    → ((t : RunState) (ds' : List DrawopValue) (u : List ℕ) → Leads t.host t.waiting ds' → run_outcome_from false (n + 1) t (lines ++ more) ≡ prints u (Ok sum) → RunsTo (n + 1) t ds' lines more)
    → RunsTo n s ds (line ∷ lines) more
runs_on n s ds line lines more text sum false step ended f g h e rest = absurd (err_end [] text s sum run_faults.Endless (sym (too_many false n s line (lines ++ more) f) ∙ e))
runs_on n s ds line lines more text sum true (refused t y fault) ended f g h e rest =
    absurd (err_end y text t sum (run_faults.Line (n + 1) fault)
    (sym (one_line false n s line (lines ++ more) ended f ∙ ap (λ (step : RunStep). follow_step (n + 1) step (λ t. run_outcome_from false (n + 1) t (lines ++ more))) g) ∙ e))
runs_on n s ds line lines more text sum true (moves_on t y) ended f g h e rest =
    let part : Part = part_in line in
    let first : run_outcome_from false n s (line ∷ (lines ++ more)) ≡ printed_before y (run_outcome_from false (n + 1) t (lines ++ more)) =
    one_line false n s line (lines ++ more) ended f ∙ ap (λ (step : RunStep). follow_step (n + 1) step (λ t. run_outcome_from false (n + 1) t (lines ++ more))) g in
    let k : Kept s.host ds part t = step_kept s.workers s.host s.waiting ds part t y h g in
    let b = behind y text sum (run_outcome_from false (n + 1) t (lines ++ more)) (sym first ∙ e) in
    let r = rest t (ds ++ arrived_by part) b.later k.leads b.is in
    record {
      done = r.done;
      last = r.last;
      written = y ++ r.written;
      on = first ∙ ap (printed_before y) r.on ∙ before-before y r.written (run_outcome_from false r.done r.last more);
      leads = subst (Leads r.last.host r.last.waiting) (append_assoc ds (arrived_by part) (arrivals_of lines)) r.leads;
      cells = r.cells ∙ k.cells (cells_of lines);
    }

runs : (n : ℕ) (s : RunState) (ds : List DrawopValue) (lines more : List InputLine) (text : List ℕ) (sum : Summary) → EachEnds lines → Leads s.host s.waiting ds → run_outcome_from false n s (lines ++ more) ≡ prints text (Ok sum) → RunsTo n s ds lines more
runs n s ds [] more text sum all h e = record { done = n; last = s; written = []; on = sym (before-nil (run_outcome_from false n s more)); leads = leads_on s.host s.waiting ds h; cells = refl }
runs n s ds (line ∷ lines) more text sum all h e =
    runs_on n s ds line lines more text sum (fit n line) (step_of s s.waiting (content line)) all.0 refl refl h e (λ t ds' u k g. runs (n + 1) t ds' lines more u sum all.1 k g)

-- ---- the question at the end

shown_on : (n : ℕ) (k : Option ℕ) (host : Option Opened) (waiting ds : List DrawopValue) (page : PageId) (width height : ℕ) (text : List ℕ) (sum : Summary) → Leads host waiting ds
    → follow_step (n + 1) (part_step (state k host waiting) waiting (End (Acts (Question (Canvas page width height))))) (λ t. run_outcome_from false (n + 1) t []) ≡ prints text (Ok sum)
    → EndsWith text (canvas_text (view_of (history_after (cells_at host 0) [] ds) page) width height)
shown_on n k None waiting ds page width height text sum h e = absurd (err_end [] text (after_batch (state k None waiting) waiting) sum (run_faults.Line (n + 1) faults.NoBoard) e)
shown_on n k (Some host) waiting ds page width height text sum h e =
    let closing : List ℕ = batch_text (board_of host) waiting in
    let canvas : List ℕ = canvas_text (view_of (history_after host.is.cells host.is.held waiting) page) width height in
    let after : RunState = after_batch (state k (Some host) waiting) waiting in (
      closing,
      sym (text_of ((closing ++ canvas) ++ []) text (run_answer (after_batch after []) (Ok (n + 1))) (Ok sum) e) ∙ append-nil (closing ++ canvas)
          ∙ ap (λ (l : List DrawopValue). closing ++ canvas_text (view_of l page) width height) h,
    )

shown_at : (n : ℕ) (s : RunState) (ds : List DrawopValue) (question : List ℕ) (page : PageId) (width height : ℕ) (text : List ℕ) (sum : Summary) (fits : Bool) → fit n (whole_line question) ≡ fits → script_line_of (strip_carriage_return question) ≡ Ok (Question (Canvas page width height))
    → Leads s.host s.waiting ds → run_outcome_from false n s (whole_line question ∷ []) ≡ prints text (Ok sum)
    → EndsWith text (canvas_text (view_of (history_after (cells_at s.host 0) [] ds) page) width height)
shown_at n s ds question page width height text sum false f said h e = absurd (err_end [] text s sum run_faults.Endless (sym (too_many false n s (whole_line question) [] f) ∙ e))
shown_at n s ds question page width height text sum true f said h e =
    shown_on n s.workers s.host s.waiting ds page width height text sum h
    (sym (one_line false n s (whole_line question) [] refl f ∙ ap (λ (l : Result Command LineFault). follow_step (n + 1) (part_step s s.waiting (part_of l)) (λ t. run_outcome_from false (n + 1) t [])) said) ∙ e)

later_end : (written u text canvas : List ℕ) → text ≡ written ++ u → EndsWith u canvas → EndsWith text canvas
later_end written u text canvas e (front, is) = (written ++ front, e ∙ ap (λ (t : List ℕ). written ++ t) is ∙ sym (append_assoc written front canvas))

pub shows_arrivals : ShowsArrivals
shows_arrivals k front question text page width height sum all is said e =
    let lines : List InputLine = input_lines front in
    let last : List InputLine = whole_line question ∷ [] in
    let whole : run_outcome_from false 0 (run_start k) (lines ++ last) ≡ prints text (Ok sum) =
    ap (λ (l : List InputLine). run_outcome_from false 0 (run_start k) (lines ++ l)) (sym (input_lines-whole question [] is.no_line_feed)) ∙ sym (split k front (question ++ 10 ∷ []) false _ all refl) ∙ e in
    let r = runs 0 (run_start k) [] lines last text sum all refl whole in
    let b = behind r.written text sum (run_outcome_from false r.done r.last last) (sym r.on ∙ whole) in
    later_end r.written b.later text (canvas_after front page width height) b.whole
    (subst (λ (cells : ℕ). EndsWith b.later (canvas_text (view_of (history_after cells [] (arrivals_of lines)) page) width height)) r.cells
    (shown_at r.done r.last (arrivals_of lines) question page width height b.later sum (fit r.done (whole_line question)) refl said r.leads b.is))

same_canvas : (cells others : ℕ) (ds es : List DrawopValue) (page : PageId) (width height : ℕ) → IsPermutation ds es → NoneClash ds → HasCells cells ds → HasCells others ds
    → canvas_text (view_of (history_after cells [] ds) page) width height ≡ canvas_text (view_of (history_after others [] es) page) width height
same_canvas cells others ds es page width height moved clash room space =
    let a = free_on cells others ds es moved clash room space in
    ap (λ (shown : List DrawopValue). canvas_text shown width height)
    (converges (history_after cells [] ds) (history_after others [] es) page (view_of (history_after cells [] ds) page) (view_of (history_after others [] es) page) a.moved (view_of_page (history_after cells [] ds) page a.once) (view_of_page (history_after others [] es) page a.again))

pub shows_are_free : ShowsAreFree
shows_are_free k front other question text again page width height sum sum' all all' is said e e' moved clash room space = (
  shows_arrivals k front question text page width height sum all is said e,
  subst (EndsWith again) (sym (same_canvas (cells_of (input_lines front)) (cells_of (input_lines other)) (arrivals_of (input_lines front)) (arrivals_of (input_lines other)) page width height moved clash room space))
      (shows_arrivals k other question again page width height sum' all' is said e'),
)
