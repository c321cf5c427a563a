-- What a page knows of its deletes and restores.
use Rattle.std.specs.Prelude.{Bool, List, Option}
use Rattle.std.specs.HashMap.{get}
use Rattle.wb_names.specs.Values.{DrawopValue}
use Rattle.wb_display.specs.LastWord.{own_target, is_shown_by, IsLastWord}
use Rattle.wb_names.specs.Same.{same_target}
use Rattle.wb_names.specs.declared.parts.Target.{Target}
use Rattle.wb_display.specs.declared.last_words.LastWord.{LastWord}
use Rattle.wb_display.specs.declared.last_words.LastWords.{LastWords}

-- the last word that is known on a target
abbrev pub word_on : LastWords → Target → Option LastWord
word_on words target = get same_target words.latest target

-- they are the last words of a history on a page
abbrev pub AreLastWords : List DrawopValue → LastWords → Type 0
AreLastWords history words = (target : Target) → IsLastWord history words.page target (word_on words target)

-- whether a drawop is shown by its last word
abbrev pub is_shown_now : LastWords → DrawopValue → Bool
is_shown_now words d = is_shown_by words.page d (word_on words (own_target d))
