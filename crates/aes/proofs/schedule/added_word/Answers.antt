-- What is left to show of `aes::schedule::added_word`.
use Rattle.std.proofs.Common.{◌/◌, sym, ap, ◌∙◌}
use Rattle.aes.specs.Keys.{rot_word, sub_word, xor_words, rcon}
use Rattle.aes.proofs.KeyWords.{temp_other, temp_fourth}
use Rattle.aes.proofs.schedule.added_word.Goals as goal

pub returns-then-i-ne0 : goal.returns-then-i-ne0
returns-then-i-ne0 c = c.word_at-last.ensures ∙ sym (temp_other c.args.w.now c.args.i c.if-i-ne0.true)

pub returns : goal.returns
returns c =
    c.xor_words.ensures
    ∙ ap (λ x. xor_words x (rcon (c.args.i / 4))) (c.sub_word.ensures ∙ ap sub_word (c.rot_word.ensures ∙ ap rot_word c.word_at-last.ensures))
    ∙ sym (temp_fourth c.args.w.now c.args.i c.if-i-ne0.false)
