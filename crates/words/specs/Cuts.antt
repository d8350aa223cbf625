-- The words of a line, by the list of its characters.
use Rattle.std.specs.Prelude.{ℕ, ◌+◌, Bool, true, cond, not, ◌&&◌, ◌||◌, List, [], ◌∷◌, drop, ◌==◌}
use Rattle.std.specs.List.{before_first, prefix_len, position_or_len}

-- a space, a tab or a carriage return
abbrev pub is_space : ℕ → Bool
is_space c = c == 32 || c == 9 || c == 13

-- a comment begins with a number sign
abbrev pub begins_comment : ℕ → Bool
begins_comment c = c == 35

-- the line up to its comment
abbrev pub before_comment : List ℕ → List ℕ
before_comment line = before_first begins_comment line

-- the text from its first word on
abbrev pub from_word : List ℕ → List ℕ
from_word text = drop (prefix_len is_space text) text

-- the first word, which is empty where there is none
abbrev pub first_word : List ℕ → List ℕ
first_word text = before_first is_space (from_word text)

-- what stands after the first word
abbrev pub past_word : List ℕ → List ℕ
past_word text = drop (position_or_len is_space (from_word text)) (from_word text)

-- a word begins where a space, or nothing, is followed by something else
abbrev pub begins_word : Bool → ℕ → Bool
begins_word space c = space && not (is_space c)

-- how many words begin in a text that stands after a space, or does not
abbrev pub words_after : Bool → List ℕ → ℕ
words_after space [] = 0
words_after space (c ∷ rest) = cond (begins_word space c) 1 0 + words_after (is_space c) rest

-- how many words a text has
abbrev pub word_count : List ℕ → ℕ
word_count text = words_after true text
