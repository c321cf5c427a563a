-- What a script prints for its batches and its questions.
use Rattle.std.specs.Prelude.{ℕ, List, ◌++◌, length, Option, Some, codes, flat_map}
use Rattle.std.specs.Fmt.{decimal}
use Rattle.std.specs.Option.{option_map}
use Rattle.hex.specs.Hex.{encode_lower}
use Rattle.wb_names.specs.Values.{DrawopValue, MarkValue}
use Rattle.wb_names.specs.declared.name.PageId.{PageId}
use Rattle.wb_names.specs.declared.gap.Gap.{Gap}
use Rattle.wb_names.specs.Arrivals.{Counts}
use Rattle.wb_codec.specs.declared.datagram.Datagram.TheVariants as datagrams
use Rattle.wb_words.specs.Spelling.{spelled}
use Rattle.wb_member.specs.Questions.{Told}
use Rattle.wb_member.specs.Questions as told

-- the line that ends a batch
abbrev pub batch_line : Counts → List ℕ
batch_line n = codes "batch " ++ (decimal n.fresh ++ (codes " " ++ (decimal n.again ++ (codes " " ++ (decimal n.clash ++ (codes " " ++ (decimal n.left ++ codes "\n")))))))

-- two numbers on a line
abbrev pub pair_line : ℕ → ℕ → List ℕ
pair_line a b = decimal a ++ (codes " " ++ (decimal b ++ codes "\n"))

-- a range of a source on a line
abbrev pub gap_line : Gap → List ℕ
gap_line g = decimal g.source ++ (codes " " ++ (decimal g.first ++ (codes " " ++ (decimal g.last ++ codes "\n"))))

-- a mark and a page on a line
abbrev pub mark_line : MarkValue → List ℕ
mark_line m = pair_line m.source m.high

abbrev pub page_line : PageId → List ℕ
page_line p = pair_line p.creator p.number

-- a word and how many there are, and a line for each
abbrev pub counted_list : {X : Type 0} → List ℕ → (X → List ℕ) → List X → List ℕ
counted_list word line xs = word ++ (decimal (length xs) ++ codes "\n") ++ flat_map line xs

abbrev pub gaps_text : List Gap → List ℕ
gaps_text gaps = counted_list (codes "gaps ") gap_line gaps

abbrev pub report_text : List MarkValue → List ℕ
report_text marks = counted_list (codes "report ") mark_line marks

abbrev pub pages_text : List PageId → List ℕ
pages_text pages = counted_list (codes "pages ") page_line pages

abbrev pub known_pages_text : List PageId → List ℕ
known_pages_text pages = counted_list (codes "known ") page_line pages

-- a drawop in words on a line
abbrev pub drawop_line : DrawopValue → List ℕ
drawop_line d = spelled (datagrams.Draw d) ++ codes "\n"

abbrev pub view_text : List DrawopValue → List ℕ
view_text drawops = counted_list (codes "view ") drawop_line drawops

abbrev pub next_line : ℕ → List ℕ
next_line n = codes "next " ++ (decimal n ++ codes "\n")

-- a digest in hexadecimal, with lower-case letters
abbrev pub digest_line : List ℕ → List ℕ
digest_line bytes = codes "digest " ++ (encode_lower bytes ++ codes "\n")

-- That no number is left has no text.
abbrev pub next_text : Option ℕ → Option (List ℕ)
next_text number = option_map next_line number

-- what is printed for an answer
abbrev pub answer_text : Told → Option (List ℕ)
answer_text (told.canvas text) = Some text
answer_text (told.gaps ranges) = Some (gaps_text ranges)
answer_text (told.report marks) = Some (report_text marks)
answer_text (told.pages all) = Some (pages_text all)
answer_text (told.view drawops) = Some (view_text drawops)
answer_text (told.known all) = Some (known_pages_text all)
answer_text (told.next number) = next_text number
answer_text (told.digest bytes) = Some (digest_line bytes)
