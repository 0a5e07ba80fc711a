mod Stocks
