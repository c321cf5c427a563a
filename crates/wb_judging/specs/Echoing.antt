-- The echo that a report has besides, under our own number, so that whoever has our number too hears that we heard them.
use Rattle.std.specs.Prelude.{List, ◌∷◌, ◌++◌, Option, Some, None, filter, length, nat_lt, if◌then◌else◌}
use Rattle.wb_names.specs.declared.echo.Echo.{Echo}
use Rattle.wb_names.specs.declared.entries.TheConstants.{MAX_ENTRIES}
use Rattle.wb_codec.specs.declared.datagram.Datagram.{Datagram}
use Rattle.wb_codec.specs.declared.datagram.Datagram.TheVariants.{AskPages, Draw, PageState, Request, Session}

-- at its place by source, in the place of one of that source
abbrev pub placed : Echo → List Echo → List Echo
placed e echoes = filter (λ f. nat_lt f.source e.source) echoes ++ e ∷ filter (λ f. nat_lt e.source f.source) echoes

-- a list that is full stays as it is
abbrev pub with_echo : Option Echo → List Echo → List Echo
with_echo None echoes = echoes
with_echo (Some e) echoes = if nat_lt (length echoes) MAX_ENTRIES then placed e echoes else echoes

abbrev pub echoing : Option Echo → Datagram → Datagram
echoing echo (Draw d) = Draw d
echoing echo (Session sender sent page marks echoes) = Session sender sent page marks (with_echo echo echoes)
echoing echo (Request asker name) = Request asker name
echoing echo (AskPages asker) = AskPages asker
echoing echo (PageState sender page marks) = PageState sender page marks
