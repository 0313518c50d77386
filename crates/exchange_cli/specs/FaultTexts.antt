-- How the fault of a mapping or of a table is written.
use Rattle.std.specs.Prelude.{ℕ, List, ◌++◌, codes}
use Rattle.std.specs.Fmt.{decimal}
use Rattle.decl_text.specs.declared.fault.Code.{Code}
use Rattle.decl_text.specs.declared.fault.Code.TheVariants.{X1, X2, X3, X4, X5, X6, X7, X8, X9, U1, U2, U3, U4, U5, U6}
use Rattle.decl_text.specs.declared.fault.MappingFault.{MappingFault}
use Rattle.temporal_csv.specs.declared.fault.TableCode.{TableCode}
use Rattle.temporal_csv.specs.declared.fault.TableCode.TheVariants.{C1, C2, C3, C4, C5, C6, C7}
use Rattle.temporal_csv.specs.declared.fault.TableFault.{TableFault}

-- the number of a mapping's fault
abbrev pub mapping_code : Code → List ℕ
mapping_code X1 = codes "X1"
mapping_code X2 = codes "X2"
mapping_code X3 = codes "X3"
mapping_code X4 = codes "X4"
mapping_code X5 = codes "X5"
mapping_code X6 = codes "X6"
mapping_code X7 = codes "X7"
mapping_code X8 = codes "X8"
mapping_code X9 = codes "X9"
mapping_code U1 = codes "U1"
mapping_code U2 = codes "U2"
mapping_code U3 = codes "U3"
mapping_code U4 = codes "U4"
mapping_code U5 = codes "U5"
mapping_code U6 = codes "U6"

-- the number of a table's fault
abbrev pub table_code : TableCode → List ℕ
table_code C1 = codes "C1"
table_code C2 = codes "C2"
table_code C3 = codes "C3"
table_code C4 = codes "C4"
table_code C5 = codes "C5"
table_code C6 = codes "C6"
table_code C7 = codes "C7"

-- a mapping's fault, as `U4 at byte 82`
abbrev pub mapping_fault : MappingFault → List ℕ
mapping_fault fault = mapping_code fault.code ++ codes " at byte " ++ decimal fault.place

-- a table's fault, as `C5 at record 2`
abbrev pub table_fault : TableFault → List ℕ
table_fault fault = table_code fault.code ++ codes " at record " ++ decimal fault.at
