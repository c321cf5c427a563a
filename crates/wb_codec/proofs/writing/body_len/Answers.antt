use Rattle.wb_codec.proofs.GrammarLaws.{session_length_of, page_state_length_of}
use Rattle.wb_codec.proofs.writing.body_len.Goals as goal

pub returns-in-Session-clause-len : goal.returns-in-Session-clause-len
returns-in-Session-clause-len c = session_length_of _ _ _ _ _ _ _ _ c.in-Session.is c.as_slice.ensures.entries c.as_slice-in-Session.ensures.entries

pub returns-in-PageState-clause-len : goal.returns-in-PageState-clause-len
returns-in-PageState-clause-len c = page_state_length_of _ _ _ _ _ c.in-PageState.is c.as_slice-in-PageState.ensures.entries
