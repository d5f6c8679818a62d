-- Lemmas: the key expansion word by word, the round keys, and the rounds one by one.
pub mod KeyWords
pub mod RoundKeys
pub mod RoundSteps
