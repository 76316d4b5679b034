-- `Refusal.number` meets its contract, case by case.
use Rattle.laws.proofs.All.{sym, ap}
use Rattle.answer.specs.Refusals.{number_of}
use Rattle.answer.proofs.Refusal.number.Goals as goal

pub returns-in-Parameters : goal.returns-in-Parameters
returns-in-Parameters c = record { answer = sym (ap number_of c.in-Parameters.is) }

pub returns-in-States : goal.returns-in-States
returns-in-States c = record { answer = sym (ap number_of c.in-States.is) }

pub returns-in-NoCode : goal.returns-in-NoCode
returns-in-NoCode c = record { answer = sym (ap number_of c.in-NoCode.is) }

pub returns-in-TooHeavy : goal.returns-in-TooHeavy
returns-in-TooHeavy c = record { answer = sym (ap number_of c.in-TooHeavy.is) }

pub returns-in-TooManyEdges : goal.returns-in-TooManyEdges
returns-in-TooManyEdges c = record { answer = sym (ap number_of c.in-TooManyEdges.is) }

pub returns-in-NoWindow : goal.returns-in-NoWindow
returns-in-NoWindow c = record { answer = sym (ap number_of c.in-NoWindow.is) }

pub returns-in-Field : goal.returns-in-Field
returns-in-Field c = record { answer = sym (ap number_of c.in-Field.is) }

pub returns-in-Length : goal.returns-in-Length
returns-in-Length c = record { answer = sym (ap number_of c.in-Length.is) }

pub returns-in-Disobeys : goal.returns-in-Disobeys
returns-in-Disobeys c = record { answer = sym (ap number_of c.in-Disobeys.is) }

pub returns-in-WindowFails : goal.returns-in-WindowFails
returns-in-WindowFails c = record { answer = sym (ap number_of c.in-WindowFails.is) }

pub returns-in-BadByte : goal.returns-in-BadByte
returns-in-BadByte c = record { answer = sym (ap number_of c.in-BadByte.is) }

pub returns-in-TooFewWords : goal.returns-in-TooFewWords
returns-in-TooFewWords c = record { answer = sym (ap number_of c.in-TooFewWords.is) }

pub returns-in-ShortOutput : goal.returns-in-ShortOutput
returns-in-ShortOutput c = record { answer = sym (ap number_of c.in-ShortOutput.is) }

pub returns-in-TooManyPairs : goal.returns-in-TooManyPairs
returns-in-TooManyPairs c = record { answer = sym (ap number_of c.in-TooManyPairs.is) }

pub returns-in-Stream : goal.returns-in-Stream
returns-in-Stream c = record { answer = sym (ap number_of c.in-Stream.is) }

pub returns-in-Depth : goal.returns-in-Depth
returns-in-Depth c = record { answer = sym (ap number_of c.in-Depth.is) }

pub returns-in-BadWeights : goal.returns-in-BadWeights
returns-in-BadWeights c = record { answer = sym (ap number_of c.in-BadWeights.is) }
