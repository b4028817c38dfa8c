-- *product rule*: The numbers of faults, and how a fault is shown (docs/FAULTS.md).
use Rattle.std.specs.Prelude.{ℕ, List, [], ◌++◌, codes, decimal}
use Rattle.vrace.specs.Places.{place_text}
use Rattle.vrace.specs.declared.fault.Detail.{Detail}
use Rattle.vrace.specs.declared.fault.Detail.TheVariants.{Nothing, Place, Item}
use Rattle.velab_expr.specs.declared.fault.Rule.{Rule}
use Rattle.velab_expr.specs.declared.fault.Rule.TheVariants.{Top, Doubled, Unknown, Drivers, Ports, Width, Constant, Depth, TooMany, Kind}
use Rattle.vrace.specs.declared.fault.Fault.{Fault}
use Rattle.vrace.specs.declared.fault.Fault.TheVariants.{NotEnded, BadToken, Directive, NoMacro, TooLarge, LeftOpen, Timescales, NoTree, Outside, TooDeep, NoDesign, BadLog, NoSuchChoice, TooManySteps, OutOfLimit, BadReport, FalseEnd, FalseRace, FalseHead, Memory, Write, Read, TooLong}

-- a rule that a text without a design breaks
abbrev pub rule_number : Rule → ℕ
rule_number Top = 301
rule_number Doubled = 302
rule_number Unknown = 303
rule_number Drivers = 304
rule_number Ports = 305
rule_number Width = 306
rule_number Constant = 307
rule_number Depth = 308
rule_number TooMany = 309
rule_number Kind = 310

abbrev pub number_of : Fault → ℕ
number_of (NotEnded at) = 101
number_of (BadToken at) = 102
number_of (Directive at) = 110
number_of (NoMacro at) = 111
number_of (TooLarge at) = 112
number_of (LeftOpen at) = 113
number_of (Timescales at) = 114
number_of (NoTree at) = 201
number_of (Outside at) = 202
number_of (TooDeep at) = 203
number_of (NoDesign rule at) = rule_number rule
number_of BadLog = 401
number_of NoSuchChoice = 402
number_of TooManySteps = 403
number_of OutOfLimit = 404
number_of BadReport = 501
number_of (FalseEnd item) = 502
number_of (FalseRace item) = 503
number_of FalseHead = 504
number_of (Memory m) = 901
number_of Write = 902
number_of Read = 903
number_of TooLong = 904

-- what is told after the number: the place where one is known, or the item of a report
abbrev pub detail_of : Fault → Detail
detail_of (NotEnded at) = Place at
detail_of (BadToken at) = Place at
detail_of (Directive at) = Place at
detail_of (NoMacro at) = Place at
detail_of (TooLarge at) = Place at
detail_of (LeftOpen at) = Place at
detail_of (Timescales at) = Place at
detail_of (NoTree at) = Place at
detail_of (Outside at) = Place at
detail_of (TooDeep at) = Place at
detail_of (NoDesign rule at) = Place at
detail_of BadLog = Nothing
detail_of NoSuchChoice = Nothing
detail_of TooManySteps = Nothing
detail_of OutOfLimit = Nothing
detail_of BadReport = Nothing
detail_of (FalseEnd item) = Item item
detail_of (FalseRace item) = Item item
detail_of FalseHead = Nothing
detail_of (Memory m) = Nothing
detail_of Write = Nothing
detail_of Read = Nothing
detail_of TooLong = Nothing

abbrev pub detail_text : Detail → List ℕ
detail_text Nothing = []
detail_text (Place at) = place_text at.0
detail_text (Item item) = codes " at " ++ decimal item

-- a fault is shown as `E`, its number, and what is told after it
abbrev pub fault_text : Fault → List ℕ
fault_text fault = codes "E" ++ decimal (number_of fault) ++ detail_text (detail_of fault)
