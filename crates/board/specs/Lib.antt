pub mod BoardTests
