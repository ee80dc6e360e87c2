-- The part of speech of a term (J Dictionary, "Nouns", "Verbs" and "Adverbs and Conjunctions").
use Rattle.jterm.specs.declared.term.Term.{Term}
use Rattle.jterm.specs.declared.term.Term.TheVariants as term
use Rattle.jterm.specs.declared.speech.Speech.{Speech}
use Rattle.jterm.specs.declared.speech.Speech.TheVariants as speech

-- what isn't a noun, an adverb's word or a conjunction's is a verb: a modifier with its operands is one, and a train too
abbrev pub speech_of : Term → Speech
speech_of (term.Noun v) = speech.Noun
speech_of (term.Ranks numbers) = speech.Ranks
speech_of (term.Adverb word) = speech.Adverb
speech_of (term.Conj word) = speech.Conjunction
speech_of other = speech.Verb
