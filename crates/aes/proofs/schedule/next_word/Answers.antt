-- What is left to show of `aes::schedule::next_word`.
use Rattle.std.proofs.Common.{◌∙◌, ap₂}
use Rattle.aes.specs.Keys.{xor_words, next_word}
use Rattle.aes.proofs.schedule.next_word.Goals as goal

pub returns : goal.returns
unfolding next_word
returns c = c.xor_words.ensures ∙ ap₂ xor_words c.word_at.ensures c.added_word.ensures
