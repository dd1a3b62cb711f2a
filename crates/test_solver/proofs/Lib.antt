pub mod OneLiteral
